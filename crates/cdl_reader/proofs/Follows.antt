-- Each card leads to what the grammar says.
use Rattle.std.proofs.Common.{◌≡◌, ◌++◌, eqb, ℕ, true, false, List, [], ◌∷◌, Result, Ok, Err, refl, sym, ap, subst, ◌∙◌}
use Rattle.std.proofs.lemmas.Bool.{eqb-true}
use Rattle.text_scan.specs.Bytes.{begins_with}
use Rattle.text_scan.specs.Tokens.{after, start}
use Rattle.text_scan.specs.declared.limits.Limits.{Limits}
use Rattle.text_scan.specs.declared.refusal.FileRefusal.{FileRefusal}
use Rattle.text_scan.specs.declared.refusal.FileRefusal.TheVariants as refusals
use Rattle.grammar.specs.Rule.{none, many, seq}
use Rattle.grammar.specs.Reading.{Stop, syntax, refusal, acting, read, ◌>>=◌}
use Rattle.grammar.specs.Answers.{read_all, to_end}
use Rattle.grammar.proofs.Stops.{many_turn, many_end}
use Rattle.circuit.specs.declared.netlist.Netlist.{Netlist}
use Rattle.cdl_cards.specs.Words.{PlacedWord}
use Rattle.cdl_cards.specs.Cards.{Card}
use Rattle.cdl_cards.specs.Left.{IsStray, word_of}
use Rattle.cdl_cards.specs.declared.line.Word.{Word}
use Rattle.cdl_reader.specs.Words.{kind_of_card, kind_of_word, behind, operands}
use Rattle.cdl_reader.specs.Actions.{at_word, begin, close, enter}
use Rattle.cdl_reader.specs.Grammar.{CardRule, after_begin, body, card, is_begin, is_end, is_plain, item, netlist, nothing}
use Rattle.cdl_reader.specs.Steps.{moved, phase_after, reads, taken, taken_by, taken_inside, taken_outside, to_come}
use Rattle.cdl_reader.specs.Told.{at_place, told}
use Rattle.file_rules.specs.Told.{Agrees, Steps}
use Rattle.cdl_reader.specs.declared.kinds.CardKind.{CardKind}
use Rattle.cdl_reader.specs.declared.kinds.CardKind.TheVariants as kinds
use Rattle.cdl_reader.specs.declared.parts.Parts.{Parts}
use Rattle.cdl_reader.specs.declared.reader.Phase.{Phase}
use Rattle.cdl_reader.specs.declared.reader.Phase.TheVariants as phases
use Rattle.cdl_reader.specs.declared.reader.Reader.{Reader}
use Rattle.cdl_reader.proofs.Simple.{inner_simple, item_simple}

abbrev Read : Type 0
Read = Result (Parts × List Card) (Stop Card FileRefusal)

abbrev then : CardRule → Parts × List Card → Read
then r x = read r x.0 x.1

module _ (limits : Limits) where
  abbrev inner : CardRule
  inner = card is_plain (enter limits)

  abbrev ends : CardRule
  ends = card is_end (close limits)

  abbrev refused : Card → List Card → FileRefusal → Read
  refused c cs e = Err (refusal e (c ∷ cs))

  -- ---- outside subcircuits

  outside_plain : (s : Parts) (c : Card) (cs : List Card) → is_plain (kind_of_card c) ≡ true → read_all (netlist limits) s (c ∷ cs) ≡ read_all (netlist limits) s cs
  unfolding netlist
  outside_plain s c cs h =
      let turn : read (many (item limits)) s (c ∷ cs) ≡ (read (item limits) s (c ∷ cs) >>= then (many (item limits))) = many_turn (item limits) (λ t. false) (item_simple limits (λ t. false)) refl s (c ∷ cs) (rw h refl) in
      let one : read (item limits) s (c ∷ cs) ≡ Ok (s, cs) = rw h refl in
      ap to_end (turn ∙ ap (λ r. r >>= then (many (item limits))) one)

  outside_begin : (s : Parts) (c : Card) (cs : List Card) → is_plain (kind_of_card c) ≡ false → is_begin (kind_of_card c) ≡ true
      → read_all (netlist limits) s (c ∷ cs) ≡ to_end (acting (begin limits c s) (λ m. read (after_begin limits (operands (behind c))) m cs) (refused c cs) >>= then (netlist limits))
  unfolding netlist
  outside_begin s c cs h b =
      let turn : read (many (item limits)) s (c ∷ cs) ≡ (read (item limits) s (c ∷ cs) >>= then (many (item limits))) = many_turn (item limits) (λ t. false) (item_simple limits (λ t. false)) refl s (c ∷ cs) (rw (h, b) refl) in
      let one : read (item limits) s (c ∷ cs) ≡ acting (begin limits c s) (λ m. read (after_begin limits (operands (behind c))) m cs) (refused c cs) = rw (h, b) refl in
      ap to_end (turn ∙ ap (λ r. r >>= then (many (item limits))) one)

  pub outside_stop : (s : Parts) (c : Card) (cs : List Card) → is_plain (kind_of_card c) ≡ false → is_begin (kind_of_card c) ≡ false → read_all (netlist limits) s (c ∷ cs) ≡ Err (syntax (c ∷ cs))
  unfolding netlist
  outside_stop s c cs h b = ap to_end (many_end (item limits) s (c ∷ cs) (rw (h, b) refl))

  -- ---- in a subcircuit

  inside_plain : (s : Parts) (c : Card) (cs : List Card) → is_plain (kind_of_card c) ≡ true
      → read_all (seq (body limits) (netlist limits)) s (c ∷ cs) ≡ to_end (((acting (enter limits c s) (λ m. read none m cs) (refused c cs) >>= then (many inner)) >>= then ends) >>= then (netlist limits))
  unfolding body
  inside_plain s c cs h =
      let turn : read (many inner) s (c ∷ cs) ≡ (read inner s (c ∷ cs) >>= then (many inner)) = many_turn inner (λ t. false) (inner_simple limits (λ t. false)) refl s (c ∷ cs) (rw h refl) in
      let one : read inner s (c ∷ cs) ≡ acting (enter limits c s) (λ m. read none m cs) (refused c cs) = rw h refl in
      ap (λ r. to_end ((r >>= then ends) >>= then (netlist limits))) (turn ∙ ap (λ r. r >>= then (many inner)) one)

  inside_end : (s : Parts) (c : Card) (cs : List Card) → is_plain (kind_of_card c) ≡ false → is_end (kind_of_card c) ≡ true
      → read_all (seq (body limits) (netlist limits)) s (c ∷ cs) ≡ to_end (acting (close limits c s) (λ m. read none m cs) (refused c cs) >>= then (netlist limits))
  unfolding body
  inside_end s c cs h b =
      let turn : read (many inner) s (c ∷ cs) ≡ Ok (s, c ∷ cs) = many_end inner s (c ∷ cs) (rw h refl) in
      let one : read ends s (c ∷ cs) ≡ acting (close limits c s) (λ m. read none m cs) (refused c cs) = rw b refl in
      ap (λ r. to_end ((r >>= then ends) >>= then (netlist limits))) turn ∙ ap (λ r. to_end (r >>= then (netlist limits))) one

  inside_stop : (s : Parts) (c : Card) (cs : List Card) → is_plain (kind_of_card c) ≡ false → is_end (kind_of_card c) ≡ false
      → read_all (seq (body limits) (netlist limits)) s (c ∷ cs) ≡ Err (syntax (c ∷ cs))
  unfolding body
  inside_stop s c cs h b =
      let turn : read (many inner) s (c ∷ cs) ≡ Ok (s, c ∷ cs) = many_end inner s (c ∷ cs) (rw h refl) in
      let one : read ends s (c ∷ cs) ≡ Err (syntax (c ∷ cs)) = rw b refl in
      ap (λ r. to_end ((r >>= then ends) >>= then (netlist limits))) turn ∙ ap (λ r. to_end (r >>= then (netlist limits))) one

  -- ---- what is told

  module _ (text : List ℕ) where
    abbrev pub told_after : Result Reader FileRefusal → List Card → Result Netlist FileRefusal
    told_after (Ok m) cs = told text (reads limits m cs)
    told_after (Err e) cs = Err e

    begun : (o : Result Parts FileRefusal) (ws : List PlacedWord) (c : Card) (cs : List Card)
        → told text (to_end (acting o (λ m. read (after_begin limits ws) m cs) (refused c cs) >>= then (netlist limits))) ≡ told_after (moved (phase_after ws) o) cs
    unfolding told
    begun (Ok s) [] c cs = refl
    begun (Ok s) (w ∷ ws) c cs = refl
    begun (Err e) ws c cs = refl

    entered : (o : Result Parts FileRefusal) (c : Card) (cs : List Card)
        → told text (to_end (((acting o (λ m. read none m cs) (refused c cs) >>= then (many inner)) >>= then ends) >>= then (netlist limits))) ≡ told_after (moved phases.Inside o) cs
    unfolding told body
    entered (Ok s) c cs = refl
    entered (Err e) c cs = refl

    closed : (o : Result Parts FileRefusal) (c : Card) (cs : List Card)
        → told text (to_end (acting o (λ m. read none m cs) (refused c cs) >>= then (netlist limits))) ≡ told_after (moved phases.Outside o) cs
    unfolding told
    closed (Ok s) c cs = refl
    closed (Err e) c cs = refl

    outside_takes : (k : CardKind) (s : Parts) (c : Card) (cs : List Card) → kind_of_card c ≡ k
        → told text (read_all (netlist limits) s (c ∷ cs)) ≡ told_after (taken_outside limits k c (record { phase = phases.Outside; parts = s })) cs
    unfolding told
    outside_takes kinds.Begin s c cs e = ap (told text) (outside_begin s c cs (rw e refl) (rw e refl)) ∙ begun (begin limits c s) (operands (behind c)) c cs
    outside_takes kinds.End s c cs e = ap (told text) (outside_stop s c cs (rw e refl) (rw e refl))
    outside_takes kinds.Transistor s c cs e = ap (told text) (outside_plain s c cs (rw e refl))
    outside_takes kinds.Capacitor s c cs e = ap (told text) (outside_plain s c cs (rw e refl))
    outside_takes kinds.PinInfo s c cs e = ap (told text) (outside_plain s c cs (rw e refl))
    outside_takes kinds.Stray s c cs e = ap (told text) (outside_stop s c cs (rw e refl) (rw e refl))
    outside_takes kinds.Other s c cs e = ap (told text) (outside_plain s c cs (rw e refl))

    inside_takes : (k : CardKind) (s : Parts) (c : Card) (cs : List Card) → kind_of_card c ≡ k
        → told text (read_all (seq (body limits) (netlist limits)) s (c ∷ cs)) ≡ told_after (taken_inside limits k c (record { phase = phases.Inside; parts = s })) cs
    unfolding told
    inside_takes kinds.Begin s c cs e = ap (told text) (inside_stop s c cs (rw e refl) (rw e refl))
    inside_takes kinds.End s c cs e = ap (told text) (inside_end s c cs (rw e refl) (rw e refl)) ∙ closed (close limits c s) c cs
    inside_takes kinds.Transistor s c cs e = ap (told text) (inside_plain s c cs (rw e refl)) ∙ entered (enter limits c s) c cs
    inside_takes kinds.Capacitor s c cs e = ap (told text) (inside_plain s c cs (rw e refl)) ∙ entered (enter limits c s) c cs
    inside_takes kinds.PinInfo s c cs e = ap (told text) (inside_plain s c cs (rw e refl)) ∙ entered (enter limits c s) c cs
    inside_takes kinds.Stray s c cs e = ap (told text) (inside_stop s c cs (rw e refl) (rw e refl))
    inside_takes kinds.Other s c cs e = ap (told text) (inside_plain s c cs (rw e refl)) ∙ entered (enter limits c s) c cs

    takes_by : (p : Phase) (s : Parts) (c : Card) (cs : List Card)
        → told text (read_all (to_come limits p) s (c ∷ cs)) ≡ told_after (taken_by limits p c (record { phase = p; parts = s })) cs
    unfolding told
    takes_by phases.Outside s c cs = outside_takes (kind_of_card c) s c cs refl
    takes_by phases.Inside s c cs = inside_takes (kind_of_card c) s c cs refl
    takes_by phases.Nameless s c cs = refl

    takes : (m : Reader) (c : Card) (cs : List Card) → told text (reads limits m (c ∷ cs)) ≡ told_after (taken limits c m) cs
    unfolding taken
    takes m c cs = takes_by m.phase m.parts c cs

    -- ---- at a reader's loop

    pub goes_on : (m n : Reader) (c : Card) (cs us vs : List Card) → cs ≡ c ∷ us → vs ≡ us → taken limits c m ≡ Ok n → told text (reads limits n vs) ≡ told text (reads limits m cs)
    goes_on m n c cs us vs e f h = sym (ap (λ z. told text (reads limits m z)) e ∙ takes m c us ∙ rw (h, f) refl)

    refused_so : (e : FileRefusal) (n : Reader) (y : Result Reader FileRefusal) (cs : List Card) (a : Result Netlist FileRefusal) → Steps {U = Unit {0}} (Err e) n y → told_after y cs ≡ a → Agrees (Err e) a
    refused_so refusals.NoMemory n y cs a h k = tt
    refused_so (refusals.Syntax line column) n y cs a h k = sym k ∙ rw h refl
    refused_so (refusals.TooMany kind number) n y cs a h k = sym k ∙ rw h refl
    refused_so (refusals.DoubleName name line) n y cs a h k = sym k ∙ rw h refl

    pub stops_so : (e : FileRefusal) (m n : Reader) (c : Card) (cs us : List Card) (a : Result Netlist FileRefusal) → cs ≡ c ∷ us → Steps {U = Unit {0}} (Err e) n (taken limits c m)
        → told text (reads limits m cs) ≡ a → Agrees (Err e) a
    stops_so e m n c cs us a f h k = refused_so e n (taken limits c m) us a h (sym (takes m c us) ∙ ap (λ z. told text (reads limits m z)) (sym f) ∙ k)

agrees_same : (r : Result Netlist FileRefusal) → Agrees r r
agrees_same (Ok x) = refl
agrees_same (Err refusals.NoMemory) = tt
agrees_same (Err (refusals.Syntax line column)) = refl
agrees_same (Err (refusals.TooMany kind number)) = refl
agrees_same (Err (refusals.DoubleName name line)) = refl

pub agrees_so : (r a : Result Netlist FileRefusal) → r ≡ a → Agrees r a
agrees_so r a e = subst (Agrees r) e (agrees_same r)

plus_alone : (c : ℕ) (bytes : List ℕ) → (eqb 43 c) ≡ false → begins_with 43 bytes ≡ true → begins_with c bytes ≡ false
unfolding begins_with
plus_alone c [] n h = cc h
plus_alone c (b ∷ bs) n h = let e : b ≡ 43 = eqb-true b 43 h in rw e n

stray_kind : (bytes : List ℕ) → begins_with 43 bytes ≡ true → kind_of_word bytes ≡ kinds.Stray
unfolding kind_of_word
stray_kind bytes h = rw (plus_alone 77 bytes refl h, plus_alone 109 bytes refl h, plus_alone 67 bytes refl h, plus_alone 99 bytes refl h, h) refl

-- ---- the end of a text

module _ (text : List ℕ) (limits : Limits) where
  ends_by : (p : Phase) (s : Parts) → (p ≡ phases.Outside → ⊥) → told text (read_all (to_come limits p) s []) ≡ Err (at_place (after start text))
  unfolding told netlist body
  ends_by phases.Outside s n = absurd (n refl)
  ends_by phases.Inside s n = refl
  ends_by phases.Nameless s n = refl

  pub ends_early : (m : Reader) → (m.phase ≡ phases.Outside → ⊥) → told text (reads limits m []) ≡ Err (at_place (after start text))
  ends_early m n = ends_by m.phase m.parts n

  pub ends_well : (m : Reader) → m.phase ≡ phases.Outside → told text (reads limits m []) ≡ Ok (record { parts = m.parts.parts })
  unfolding told netlist
  ends_well m e = rw e refl

  -- the first card is a + line
  pub stray_stops : (w : Word) (cards more : List Card) → IsStray w cards → told text (read_all (netlist limits) nothing (cards ++ more)) ≡ Err (at_word (word_of w))
  unfolding told
  stray_stops w cards more h =
      let k : kind_of_word w.bytes.now ≡ kinds.Stray = stray_kind w.bytes.now h.plus in
      rw h.is (ap (told text) (outside_stop limits nothing (word_of w ∷ h.more) more (rw k refl) (rw k refl)))
