-- What beginning, entering and ending lead to.
use Rattle.std.proofs.Common.{◌≡◌, ◌<◌, ◌≤◌, ℕ, true, false, List, [], ◌∷◌, ◌++◌, length, Option, Some, None, Result, Ok, Err, refl, sym, ap, subst, ◌∙◌, arith}
use Rattle.std.specs.Prelude.{is_some, nat_le, map}
use Rattle.text_scan.specs.declared.limits.Limits.{Limits}
use Rattle.text_scan.specs.declared.limits.LimitKind.TheVariants as limit_kinds
use Rattle.text_scan.specs.declared.refusal.FileRefusal.{FileRefusal}
use Rattle.text_scan.specs.declared.refusal.FileRefusal.TheVariants as refusals
use Rattle.circuit.specs.declared.netlist.SubcircuitPart.{SubcircuitPart}
use Rattle.cdl_cards.specs.Words.{PlacedWord}
use Rattle.cdl_cards.specs.Cards.{Card}
use Rattle.cdl_reader.specs.Words.{first_fault, kind_of_card, operands}
use Rattle.cdl_reader.specs.Actions.{adds, at_word, begin, begun_part, close, end_refusal, enter_part, entered, named_part, opened, refused_by, unless_told, with_part, word_bytes}
use Rattle.cdl_reader.specs.Parts.{made, no_part}
use Rattle.cdl_reader.specs.Steps.{taken, taken_outside, taken_inside}
use Rattle.file_rules.specs.Told.{TellsSome}
use Rattle.cdl_reader.specs.Told.{at_card}
use Rattle.file_rules.specs.Told.{Agrees, Steps}
use Rattle.cdl_reader.specs.declared.kinds.CardKind.{CardKind}
use Rattle.cdl_reader.specs.declared.kinds.CardKind.TheVariants as kinds
use Rattle.cdl_reader.specs.declared.part.Construct.{Construct}
use Rattle.cdl_reader.specs.declared.part.Part.{Part}
use Rattle.cdl_reader.specs.declared.parts.Parts.{Parts}
use Rattle.cdl_reader.specs.declared.reader.Phase.TheVariants as phases
use Rattle.cdl_reader.specs.declared.reader.Reader.{Reader}

pub steps_along : {U X : Type 0} (r : Result U FileRefusal) (n : X) (y z : Result X FileRefusal) → z ≡ y → Steps r n y → Steps r n z
steps_along r n y z e h = subst (λ v. Steps r n v) (sym e) h

pub steps_agree : (U : Type 0) {X : Type 0} (e : FileRefusal) (n : X) (y : Result X FileRefusal) → Steps {U = U} (Err e) n y → Agrees (Err e) y
steps_agree U refusals.NoMemory n y h = tt
steps_agree U (refusals.Syntax line column) n y h = h
steps_agree U (refusals.TooMany kind number) n y h = h
steps_agree U (refusals.DoubleName name line) n y h = h

pub told_steps : (U : Type 0) {X : Type 0} (e : FileRefusal) (o : Option FileRefusal) (n : X) (y : Result X FileRefusal) → TellsSome e o → Steps {U = U} (Err e) n (unless_told o y)
told_steps U refusals.NoMemory o n y h = tt
told_steps U (refusals.Syntax line column) o n y h = rw h refl
told_steps U (refusals.TooMany kind number) o n y h = rw h refl
told_steps U (refusals.DoubleName name line) o n y h = rw h refl

pub with_steps : (r : Result (Unit {0}) FileRefusal) (s : Parts) (p : Part) (y : Result Part FileRefusal) → Steps r p y → Steps r (record s { part = p }) (with_part s y)
with_steps (Ok u) s p y h = rw h refl
with_steps (Err refusals.NoMemory) s p y h = tt
with_steps (Err (refusals.Syntax line column)) s p y h = rw h refl
with_steps (Err (refusals.TooMany kind number)) s p y h = rw h refl
with_steps (Err (refusals.DoubleName name line)) s p y h = rw h refl

-- a step that stops at a word
pub stops_at : (U : Type 0) {X : Type 0} (e : FileRefusal) (w : PlacedWord) (n : X) (y : Result X FileRefusal) → e ≡ at_word w → y ≡ Err (at_word w) → Steps {U = U} (Err e) n y
stops_at U e w n y h k = let P : FileRefusal → Type 0 = λ z. Steps {U = U} (Err z) n y in subst P (sym h) k

-- ---- a card of a subcircuit

pub other_entered : (limits : Limits) (k : CardKind) (card : Card) (p : Part) → (k ≡ kinds.Transistor → ⊥) → (k ≡ kinds.Capacitor → ⊥) → (k ≡ kinds.PinInfo → ⊥) → entered limits k card p ≡ Ok (refused_by card p)
other_entered limits kinds.Transistor card p a b c = absurd (a refl)
other_entered limits kinds.Capacitor card p a b c = absurd (b refl)
other_entered limits kinds.PinInfo card p a b c = absurd (c refl)
other_entered limits kinds.Begin card p a b c = refl
other_entered limits kinds.End card p a b c = refl
other_entered limits kinds.Stray card p a b c = refl
other_entered limits kinds.Other card p a b c = refl

unread_by : (o : Option Construct) (limits : Limits) (card : Card) (p : Part) → p.refusal ≡ o → is_some o ≡ true → enter_part limits card p ≡ Ok p
unfolding enter_part
unread_by None limits card p e h = cc h
unread_by (Some x) limits card p e h = rw e refl

pub unread : (limits : Limits) (card : Card) (p : Part) → is_some p.refusal ≡ true → enter_part limits card p ≡ Ok p
unread limits card p h = unread_by p.refusal limits card p refl h

readable_by : (o : Option Construct) (limits : Limits) (card : Card) (p : Part) → p.refusal ≡ o → is_some o ≡ false → enter_part limits card p ≡ entered limits (kind_of_card card) card p
unfolding enter_part
readable_by None limits card p e h = rw e refl
readable_by (Some x) limits card p e h = cc h

pub readable : (limits : Limits) (k : CardKind) (card : Card) (p : Part) → is_some p.refusal ≡ false → k ≡ kind_of_card card → enter_part limits card p ≡ entered limits k card p
readable limits k card p h e = readable_by p.refusal limits card p refl h ∙ ap (λ z. entered limits z card p) (sym e)

-- ---- the pins of a subcircuit

pub begun_whole : (limits : Limits) (name : List ℕ) (pins : List (List ℕ)) (ws : List PlacedWord) → first_fault limits ws ≡ None → pins ≡ map word_bytes ws
    → begun_part limits name ws ≡ Ok (record no_part { name = name; pins = pins })
unfolding begun_part
begun_whole limits name pins ws h e = rw (h, e) refl

pub begun_with : (limits : Limits) (name : List ℕ) (ws : List PlacedWord) → begun_part limits name ws ≡ adds limits (first_fault limits ws) (record no_part { name = name; pins = map word_bytes ws }) (named_part name)
unfolding begun_part
begun_with limits name ws = refl

-- ---- the first card of a subcircuit

pub begin_full : (limits : Limits) (card : Card) (s : Parts) → limits.cells ≤ length s.parts → begin limits card s ≡ Err (refusals.TooMany limit_kinds.Cells limits.cells)
unfolding begin
begin_full limits card s h = let yes : nat_le limits.cells (length s.parts) ≡ true = grind arith in rw yes refl

pub begin_opens : (limits : Limits) (w : PlacedWord) (ws ops : List PlacedWord) (s : Parts) → length s.parts < limits.cells → operands ws ≡ ops → begin limits (w ∷ ws) s ≡ opened limits s ops
unfolding begin
begin_opens limits w ws ops s h e = let no : nat_le limits.cells (length s.parts) ≡ false = grind arith in rw (no, e) refl

-- ---- the last card of a subcircuit

pub closes_so : (limits : Limits) (w : PlacedWord) (ws : List PlacedWord) (s : Parts) (all : List SubcircuitPart) (one : SubcircuitPart) (was now none : Part) → end_refusal limits ws ≡ None
    → all ≡ s.parts ++ one ∷ [] → one ≡ made was → was ≡ s.part → now ≡ none → none ≡ no_part → close limits (w ∷ ws) s ≡ Ok (record { names = s.names; parts = all; part = now })
unfolding close
closes_so limits w ws s all one was now none e a b c d f = rw (e, a, b, c, d, f) refl

-- ---- what is read last

pub taken_in_outside : (limits : Limits) (card : Card) (m : Reader) → m.phase ≡ phases.Outside → taken limits card m ≡ taken_outside limits (kind_of_card card) card m
unfolding taken
taken_in_outside limits card m e = rw e refl

pub taken_in_inside : (limits : Limits) (card : Card) (m : Reader) → m.phase ≡ phases.Inside → taken limits card m ≡ taken_inside limits (kind_of_card card) card m
unfolding taken
taken_in_inside limits card m e = rw e refl

pub taken_in_nameless : (limits : Limits) (card : Card) (m : Reader) → m.phase ≡ phases.Nameless → taken limits card m ≡ Err (at_card card)
unfolding taken
taken_in_nameless limits card m e = rw e refl
