-- What is told of a cell that has no meaning can be shown.
use Rattle.std.proofs.Common.{◌≡◌, ◌⊎◌, inl, inr, ℕ, ◌+◌, ◌-◌, refl, sym, ◌∙◌, ap, subst, arith, List, [], ◌∷◌, ◌++◌, length, Option, Some, None, Bool, true, false, ◌&&◌, ◌||◌, ◌==◌, nat_le, if◌then◌else◌, is_some, codes}
use Rattle.std.specs.List.{list_all}
use Rattle.std.proofs.lemmas.Bool.Decides.{nat_tests}
use Rattle.text_scan.specs.declared.limits.Limits.{Limits}
use Rattle.file_rules.specs.Names.{is_graphic, are_graphic, is_name_within}
use Rattle.file_rules.specs.Kept.{both_true}
use Rattle.liberty_source.specs.declared.LibertyCell.{LibertyCell}
use Rattle.liberty_source.specs.declared.LibertyPin.{LibertyPin}
use Rattle.liberty_source.specs.declared.FfText.{FfText}
use Rattle.liberty_source.specs.declared.LatchText.{LatchText}
use Rattle.liberty_source.specs.declared.RowsText.{RowsText}
use Rattle.liberty_source.specs.declared.StateGroup.{StateGroup}
use Rattle.liberty_source.specs.declared.StateGroup.TheVariants.{Stateless, Ff, Latch, Rows}
use Rattle.liberty_source.specs.Library.{is_pin, is_cell, is_name_if_there, is_directed, state_names, pin_name}
use Rattle.liberty_function.specs.Sources.{Named}
use Rattle.liberty_function.specs.Words.{is_name_byte}
use Rattle.liberty_function.proofs.Identifiers.{unknown_name}
use Rattle.liberty_meaning.specs.declared.refusal.MeaningRefusal.{MeaningRefusal}
use Rattle.liberty_meaning.specs.declared.refusal.MeaningRefusal.TheVariants as refusal
use Rattle.liberty_meaning.specs.Names.{names_of, nodes_of, is_direction_internal, is_direction_output, output_pins, inputs_from}
use Rattle.liberty_meaning.specs.Meaning.{RefusesText, RefusesOptional, RefusesOutputBy, RefusesOutput, RefusesOutputs, output_text}
use Rattle.liberty_meaning.specs.PairMeaning.{RefusesFirst, here, later, ff_texts, latch_texts, RefusesFfBy, RefusesLatchBy}
use Rattle.liberty_meaning.specs.TableMeaning.{RefusesColumns, RefusesRows, RefusesTable}
use Rattle.liberty_meaning.specs.Next.{RefusesState}
use Rattle.liberty_meaning.specs.Cell.{node_or, internal_or, unknown_internal, Refuses, in_state, in_internals, in_outputs}
use Rattle.name_index.specs.Places.{place_of}
use Rattle.cell_compare.specs.Telling.{reason_texts, AreGraphic}
use Rattle.cell_compare.specs.Reasons.{IsMeaningReason}
use Rattle.verdict_text.specs.declared.reason.Reason.{Reason}
use Rattle.cell_compare.proofs.Graphic.{all_at, all_joined, all_parts, all_cons, all_filtered, within_graphic, one_graphic}

-- ---- the names of a function's text

byte_graphic : (b : ℕ) → is_name_byte b ≡ true → is_graphic b ≡ true
byte_graphic b h = grind (arith, nat_tests)

identifier_graphic : (n : List ℕ) → list_all is_name_byte n ≡ true → are_graphic n ≡ true
identifier_graphic [] h = refl
identifier_graphic (b ∷ n) h =
    let both : (is_name_byte b ≡ true) × (list_all is_name_byte n ≡ true) = both_true _ _ h in
    all_cons is_graphic b n (byte_graphic b both.0) (identifier_graphic n both.1)

-- ---- refusals of meanings

refusal_texts : MeaningRefusal → List (List ℕ)
refusal_texts refusal.NoMemory = []
refusal_texts (refusal.UnknownName n) = n ∷ []
refusal_texts (refusal.BadFunction owner place) = owner ∷ []
refusal_texts (refusal.BadStateRow row) = []
refusal_texts (refusal.Construct word line) = word ∷ []

text_refused : (names : List Named) (owner text : List ℕ) (e : MeaningRefusal) → are_graphic owner ≡ true → RefusesText names owner text e → AreGraphic (refusal_texts e)
unfolding refusal_texts
text_refused names owner text refusal.NoMemory h r = absurd r
text_refused names owner text (refusal.UnknownName n) h r = one_graphic n (identifier_graphic n (unknown_name names text n r.1))
text_refused names owner text (refusal.BadFunction o place) h r = one_graphic o (subst (λ x. are_graphic x ≡ true) (sym r.0) h)
text_refused names owner text (refusal.BadStateRow row) h r = absurd r
text_refused names owner text (refusal.Construct word line) h r = absurd r

optional_refused : (names : List Named) (owner : List ℕ) (text : Option (List ℕ)) (e : MeaningRefusal) → are_graphic owner ≡ true → RefusesOptional names owner text e → AreGraphic (refusal_texts e)
optional_refused names owner None e h r = absurd r
optional_refused names owner (Some text) e h r = text_refused names owner text e h r

owner_graphic : (List ℕ × Option (List ℕ)) → Bool
owner_graphic t = are_graphic t.0

first_refused : (names : List Named) (texts : List (List ℕ × Option (List ℕ))) (e : MeaningRefusal) → list_all owner_graphic texts ≡ true → RefusesFirst names texts e → AreGraphic (refusal_texts e)
unfolding owner_graphic
first_refused names _ e h (here {owner} {text} {rest} r) = optional_refused names owner text e (both_true _ _ h).0 r
first_refused names _ e h (later {owner} {text} {rest} good r) = first_refused names rest e (both_true _ _ h).1 r

told_word : (word : List ℕ) (line : ℕ) (e : MeaningRefusal) → are_graphic word ≡ true → e ≡ refusal.Construct word line → AreGraphic (refusal_texts e)
unfolding refusal_texts
told_word word line e h f = rw f (one_graphic word h)

told_name : (n : List ℕ) (e : MeaningRefusal) → are_graphic n ≡ true → e ≡ refusal.UnknownName n → AreGraphic (refusal_texts e)
unfolding refusal_texts
told_name n e h f = rw f (one_graphic n h)

ff_refused : (names : List Named) (ff : FfText) (e : MeaningRefusal) (a b : Option (List ℕ)) → RefusesFfBy a b names ff e → AreGraphic (refusal_texts e)
unfolding owner_graphic
ff_refused names ff e (Some a) (Some b) r = first_refused names (ff_texts ff) e refl r
ff_refused names ff e (Some a) None r = told_word (codes "ff") ff.line e refl r
ff_refused names ff e None b r = told_word (codes "ff") ff.line e refl r

latch_refused : (names : List Named) (latch : LatchText) (e : MeaningRefusal) (a b : Option (List ℕ)) → RefusesLatchBy a b names latch e → AreGraphic (refusal_texts e)
unfolding owner_graphic
latch_refused names latch e (Some a) (Some b) r = first_refused names (latch_texts latch) e refl r
latch_refused names latch e (Some a) None r = told_word (codes "latch") latch.line e refl r
latch_refused names latch e None (Some b) r = told_word (codes "latch") latch.line e refl r
latch_refused names latch e None None r = first_refused names (latch_texts latch) e refl r

module _ (limits : Limits) where
  rows_refused : (pins : List LibertyPin) (r : RowsText) (e : MeaningRefusal) → list_all (is_name_within limits) (r.inputs ++ r.nodes) ≡ true → RefusesTable pins r e → AreGraphic (refusal_texts e)
  unfolding refusal_texts
  rows_refused pins r e h (inl columns) =
      let inputs : list_all (is_name_within limits) r.inputs ≡ true = (all_parts (is_name_within limits) r.inputs r.nodes h).0 in
      let cut : list_all (is_name_within limits) (columns.before ++ columns.bad ∷ columns.after) ≡ true = subst (λ ns. list_all (is_name_within limits) ns ≡ true) columns.whole inputs in
      let bad : is_name_within limits columns.bad ≡ true = (both_true _ _ (all_parts (is_name_within limits) columns.before (columns.bad ∷ columns.after) cut).1).0 in
      told_name columns.bad e (within_graphic limits columns.bad bad) columns.error
  rows_refused pins r e h (inr rows) = rw rows.1.error refl

  state_refused : (names : List Named) (pins : List LibertyPin) (group : StateGroup) (e : MeaningRefusal) → list_all (is_name_within limits) (state_names group) ≡ true → RefusesState names pins group e → AreGraphic (refusal_texts e)
  state_refused names pins Stateless e h r = absurd r
  state_refused names pins (Ff ff) e h r = ff_refused names ff e ff.next_state ff.clocked_on r
  state_refused names pins (Latch latch) e h r = latch_refused names latch e latch.enable latch.data_in r
  state_refused names pins (Rows rows) e h r = rows_refused pins rows e h r

  pin_named : (p : LibertyPin) → is_pin limits p ≡ true → is_name_within limits p.name ≡ true
  pin_named p h = (both_true _ _ (both_true _ _ h).0).0

  node_graphic : (o : Option (List ℕ)) (n : List ℕ) → is_name_if_there limits o ≡ true → o ≡ Some n → are_graphic n ≡ true
  node_graphic None n h e = absurd cc
  node_graphic (Some m) n h e = let same : m ≡ n = cc in subst (λ x. are_graphic x ≡ true) same (within_graphic limits m h)

  node_by : (nodes : List (List ℕ)) (o more : Option (List ℕ)) (n : List ℕ) → is_name_if_there limits o ≡ true → ((m : List ℕ) → more ≡ Some m → are_graphic m ≡ true) → node_or nodes o more ≡ Some n → are_graphic n ≡ true
  node_by nodes None more n h rest e = rest n e
  node_by nodes (Some m) more n h rest e = by_test (is_some (place_of nodes m)) e
    where
      by_test : (t : Bool) → (if t then more else Some m) ≡ Some n → are_graphic n ≡ true
      by_test true f = rest n f
      by_test false f = let same : m ≡ n = cc in subst (λ x. are_graphic x ≡ true) same (within_graphic limits m h)

  internal_by : (nodes : List (List ℕ)) (p : LibertyPin) (more : Option (List ℕ)) (n : List ℕ) (t : Bool) → is_name_if_there limits p.internal_node ≡ true → ((m : List ℕ) → more ≡ Some m → are_graphic m ≡ true)
      → (if t then node_or nodes p.internal_node more else more) ≡ Some n → are_graphic n ≡ true
  internal_by nodes p more n true h rest e = node_by nodes p.internal_node more n h rest e
  internal_by nodes p more n false h rest e = rest n e

  internals_refused : (nodes : List (List ℕ)) (pins : List LibertyPin) (n : List ℕ) → list_all (is_pin limits) pins ≡ true → unknown_internal nodes pins ≡ Some n → are_graphic n ≡ true
  unfolding unknown_internal
  internals_refused nodes [] n h e = absurd cc
  internals_refused nodes (p ∷ pins) n h e =
      let b : (is_pin limits p ≡ true) × (list_all (is_pin limits) pins ≡ true) = both_true _ _ h in
      internal_by nodes p (unknown_internal nodes pins) n (is_direction_internal p.direction) (both_true _ _ b.0).1 (λ m f. internals_refused nodes pins m b.1 f) e

  output_by : (names : List Named) (nodes : List (List ℕ)) (p : LibertyPin) (text : Option (List ℕ)) (shown : Option (List ℕ)) (e : MeaningRefusal) → is_pin limits p ≡ true → shown ≡ p.internal_node
      → RefusesOutputBy names nodes p.name text shown e → AreGraphic (refusal_texts e)
  output_by names nodes p (Some text) shown e h s r = text_refused names p.name text e (within_graphic limits p.name (pin_named p h)) r
  output_by names nodes p None (Some n) e h s r = told_name n e (node_graphic p.internal_node n (both_true _ _ h).1 (sym s)) r.0
  output_by names nodes p None None e h s r = absurd r

  outputs_refused : (names : List Named) (nodes : List (List ℕ)) (pins : List LibertyPin) (e : MeaningRefusal) → list_all (is_pin limits) pins ≡ true → RefusesOutputs names nodes pins e → AreGraphic (refusal_texts e)
  outputs_refused names nodes pins e h r =
      let outputs : list_all (is_pin limits) (output_pins pins) ≡ true = all_filtered (is_pin limits) (λ (p : LibertyPin). is_direction_output p.direction) pins h in
      let cut : list_all (is_pin limits) (r.before ++ r.pin ∷ r.after) ≡ true = subst (λ ps. list_all (is_pin limits) ps ≡ true) r.whole outputs in
      let pin : is_pin limits r.pin ≡ true = (both_true _ _ (all_parts (is_pin limits) r.before (r.pin ∷ r.after) cut).1).0 in
      output_by names nodes r.pin (output_text r.pin) r.pin.internal_node e pin refl r.refused

  cell_refused : (cell : LibertyCell) (e : MeaningRefusal) → is_cell limits cell ≡ true → Refuses cell e → AreGraphic (refusal_texts e)
  cell_refused cell e h (in_state r) = state_refused (names_of cell) cell.pins cell.state e (both_true _ _ h).1 r
  cell_refused cell e h (in_internals good n u f) =
      told_name n e (internals_refused (nodes_of cell.state) cell.pins n (both_true _ _ (both_true _ _ (both_true _ _ h).0).0).1 u) f
  cell_refused cell e h (in_outputs good none r) = outputs_refused (names_of cell) (nodes_of cell.state) cell.pins e (both_true _ _ (both_true _ _ (both_true _ _ h).0).0).1 r

  pub meaning_told : (cell : LibertyCell) (e : MeaningRefusal) (r : Reason) → is_cell limits cell ≡ true → Refuses cell e → IsMeaningReason e r → AreGraphic (reason_texts r)
  unfolding refusal_texts
  meaning_told cell refusal.NoMemory r h f g = absurd g
  meaning_told cell (refusal.UnknownName n) r h f g = rw g (cell_refused cell (refusal.UnknownName n) h f)
  meaning_told cell (refusal.BadFunction owner place) r h f g = rw g (cell_refused cell (refusal.BadFunction owner place) h f)
  meaning_told cell (refusal.BadStateRow row) r h f g = rw g refl
  meaning_told cell (refusal.Construct word line) r h f g = rw g (cell_refused cell (refusal.Construct word line) h f)
