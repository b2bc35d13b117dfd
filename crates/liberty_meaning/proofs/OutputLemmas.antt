-- The programs of outputs.
use Rattle.std.proofs.Common.{◌≡◌, ℕ, zero, suc, ◌+◌, ◌<◌, ◌≤◌, refl, sym, ◌∙◌, ap, subst, true, false, List, [], ◌∷◌, ◌++◌, length, take, drop, drop-cons, get_or, All, Option, Some, None, is_some, slice_get}
use Rattle.std.proofs.lemmas.List.{take_more, take-append-drop, take_all, append-nil}
use Rattle.std.proofs.lemmas.List.Elements.{filter-append, All-nil, All-cons}
use Rattle.liberty_source.specs.declared.LibertyPin.{LibertyPin}
use Rattle.liberty_function.specs.declared.function.Program.{Program}
use Rattle.liberty_function.specs.Sources.{Named}
use Rattle.liberty_function.specs.Texts.{program_value}
use Rattle.liberty_meaning.specs.declared.refusal.MeaningRefusal.{MeaningRefusal}
use Rattle.liberty_meaning.specs.declared.refusal.MeaningRefusal.TheVariants as refusal
use Rattle.liberty_meaning.specs.Names.{is_direction_output, output_pins}
use Rattle.name_index.specs.Places.{place_of}
use Rattle.liberty_meaning.specs.Meaning.{Valuation, IsOutputBy, IsGoodOutputBy, OutputsAre, IsOutput, IsGoodOutput, RefusesOutput, RefusesOutputs, UnlessMemory, output_text}

-- an output pin more, or another pin more
last_yes : (p : LibertyPin) → is_direction_output p.direction ≡ true → output_pins (p ∷ []) ≡ p ∷ []
last_yes p e = rw e refl

last_no : (p : LibertyPin) → is_direction_output p.direction ≡ false → output_pins (p ∷ []) ≡ []
last_no p e = rw e refl

next_pins : (pins : List LibertyPin) (i : ℕ) (p : LibertyPin) → i < length pins → p ≡ get_or pins i p → output_pins (take (i + 1) pins) ≡ output_pins (take i pins) ++ output_pins (p ∷ [])
next_pins pins i p h is = ap output_pins (take_more pins i p h ∙ ap (λ k. take i pins ++ k ∷ []) (sym is)) ∙ filter-append (λ (q : LibertyPin). is_direction_output q.direction) (take i pins) (p ∷ [])

module _ (names : List Named) (nodes : List (List ℕ)) where
  pub outputs_none : (qs : List Program) → qs ≡ [] → OutputsAre names nodes [] qs
  unfolding OutputsAre
  outputs_none qs e = rw e tt

  outputs_more : (ps : List LibertyPin) (qs : List Program) (p : LibertyPin) (q : Program) → OutputsAre names nodes ps qs → IsOutput names nodes p (program_value q) → OutputsAre names nodes (ps ++ p ∷ []) (qs ++ q ∷ [])
  unfolding OutputsAre
  outputs_more [] [] p q h o = (o, tt)
  outputs_more [] (r ∷ qs) p q h o = absurd h
  outputs_more (r ∷ ps) [] p q h o = absurd h
  outputs_more (r ∷ ps) (s ∷ qs) p q h o = (h.0, outputs_more ps qs p q h.1 o)

  pub outputs_step : (pins : List LibertyPin) (i : ℕ) (p : LibertyPin) (qs new : List Program) (q : Program) → i < length pins → p ≡ get_or pins i p → OutputsAre names nodes (output_pins (take i pins)) qs → is_direction_output p.direction ≡ true → IsOutput names nodes p (program_value q) → new ≡ qs ++ q ∷ [] → OutputsAre names nodes (output_pins (take (i + 1) pins)) new
  outputs_step pins i p qs new q h is o e s n =
      let t : output_pins (take i pins) ++ p ∷ [] ≡ output_pins (take (i + 1) pins) = sym (next_pins pins i p h is ∙ ap (λ k. output_pins (take i pins) ++ k) (last_yes p e)) in
      subst (λ k. OutputsAre names nodes k new) t (rw n (outputs_more (output_pins (take i pins)) qs p q o s))

  pub outputs_pass : (pins : List LibertyPin) (i : ℕ) (p : LibertyPin) (qs : List Program) → i < length pins → p ≡ get_or pins i p → OutputsAre names nodes (output_pins (take i pins)) qs → is_direction_output p.direction ≡ false → OutputsAre names nodes (output_pins (take (i + 1) pins)) qs
  outputs_pass pins i p qs h is o e =
      let t : output_pins (take (i + 1) pins) ≡ output_pins (take i pins) = next_pins pins i p h is ∙ ap (λ k. output_pins (take i pins) ++ k) (last_no p e) ∙ append-nil (output_pins (take i pins)) in
      subst (λ k. OutputsAre names nodes k qs) (sym t) o

  pub outputs_whole : (pins : List LibertyPin) (i : ℕ) (qs : List Program) → length pins ≤ i → OutputsAre names nodes (output_pins (take i pins)) qs → OutputsAre names nodes (output_pins pins) qs
  outputs_whole pins i qs h o = subst (λ k. OutputsAre names nodes (output_pins k) qs) (take_all i pins h) o

  found : (o : Option ℕ) (k : ℕ) → o ≡ Some k → is_some o ≡ true
  found None k e = absurd (cc)
  found (Some j) k e = refl

  good_by : (text shown : Option (List ℕ)) (v : Valuation) → IsOutputBy names nodes text shown v → IsGoodOutputBy names nodes text shown
  good_by (Some t) shown v h = (h.0, h.1)
  good_by None (Some n) v h = found (place_of nodes n) h.0 h.1
  good_by None None v h = tt

  -- outputs that have programs are good
  good_outputs : (ps : List LibertyPin) (qs : List Program) → OutputsAre names nodes ps qs → All (λ p. IsGoodOutput names nodes p) ps
  unfolding OutputsAre
  good_outputs [] qs h = All-nil (λ p. IsGoodOutput names nodes p)
  good_outputs (p ∷ ps) [] h = absurd h
  good_outputs (p ∷ ps) (q ∷ qs) h = All-cons (λ p. IsGoodOutput names nodes p) p ps (good_by (output_text p) p.internal_node (program_value q) h.0) (good_outputs ps qs h.1)

  -- each output pin has the program at its place
  pub output_at : (ps : List LibertyPin) (qs : List Program) → OutputsAre names nodes ps qs → (k : ℕ) (p : LibertyPin) → slice_get ps k ≡ Some p → (q : Program) × (slice_get qs k ≡ Some q) × IsOutput names nodes p (program_value q)
  unfolding OutputsAre
  output_at [] qs h k p e = absurd (cc)
  output_at (r ∷ ps) [] h k p e = absurd h
  output_at (r ∷ ps) (q ∷ qs) h zero p e = let s : r ≡ p = cc in (q, refl, subst (λ k. IsOutput names nodes k (program_value q)) s h.0)
  output_at (r ∷ ps) (q ∷ qs) h (suc k) p e = output_at ps qs h.1 k p e

  pub outputs_length : (ps : List LibertyPin) (qs : List Program) → OutputsAre names nodes ps qs → length qs ≡ length ps
  unfolding OutputsAre
  outputs_length [] [] h = refl
  outputs_length [] (q ∷ qs) h = absurd h
  outputs_length (p ∷ ps) [] h = absurd h
  outputs_length (p ∷ ps) (q ∷ qs) h = ap (λ k. suc k) (outputs_length ps qs h.1)

  pub output_past : (ps : List LibertyPin) (qs : List Program) → OutputsAre names nodes ps qs → (k : ℕ) → slice_get ps k ≡ None → slice_get qs k ≡ None
  unfolding OutputsAre
  output_past [] [] h k e = refl
  output_past [] (q ∷ qs) h k e = absurd h
  output_past (p ∷ ps) [] h k e = absurd h
  output_past (p ∷ ps) (q ∷ qs) h zero e = absurd (cc)
  output_past (p ∷ ps) (q ∷ qs) h (suc k) e = output_past ps qs h.1 k e

pub unless : (e : MeaningRefusal) (P Q : Type 0) → (P → Q) → UnlessMemory e P → UnlessMemory e Q
unless refusal.NoMemory P Q f h = tt
unless (refusal.BadFunction o k) P Q f h = f h
unless (refusal.UnknownName n) P Q f h = f h
unless (refusal.BadStateRow r) P Q f h = f h
unless (refusal.Construct w l) P Q f h = f h

pub outputs_refused : (names : List Named) (nodes : List (List ℕ)) (pins : List LibertyPin) (i : ℕ) (p : LibertyPin) (qs : List Program) (e : MeaningRefusal) → i < length pins → p ≡ get_or pins i p → OutputsAre names nodes (output_pins (take i pins)) qs → is_direction_output p.direction ≡ true → UnlessMemory e (RefusesOutput names nodes p e) → UnlessMemory e (RefusesOutputs names nodes pins e)
outputs_refused names nodes pins i p qs e h is o t r =
    let d : drop i pins ≡ (p ∷ []) ++ drop (suc i) pins = drop-cons pins i p h ∙ ap (λ k. k ∷ drop (suc i) pins) (sym is) in
    let w : output_pins pins ≡ output_pins (take i pins) ++ (p ∷ output_pins (drop (suc i) pins)) =
    ap output_pins (sym (take-append-drop i pins)) ∙ filter-append (λ (q : LibertyPin). is_direction_output q.direction) (take i pins) (drop i pins)
    ∙ ap (λ k. output_pins (take i pins) ++ k) (ap output_pins d ∙ (rw t refl)) in
    unless e (RefusesOutput names nodes p e) (RefusesOutputs names nodes pins e) (λ x. record {
      before = output_pins (take i pins);
      pin = p;
      after = output_pins (drop (suc i) pins);
      whole = w;
      good = good_outputs names nodes (output_pins (take i pins)) qs o;
      refused = x;
    }) r
