-- What a reader does at a card.
use Rattle.std.specs.Prelude.{◌≡◌, ℕ, suc, List, [], ◌∷◌, map, Bool, true, false, Option, Some, None, Result, Ok, Err}
use Rattle.text_scan.specs.declared.limits.Limits.{Limits}
use Rattle.text_scan.specs.declared.refusal.FileRefusal.{FileRefusal}
use Rattle.circuit.specs.declared.netlist.Transistor.{Transistor}
use Rattle.grammar.specs.Rule.{seq}
use Rattle.grammar.specs.Answers.{read_all}
use Rattle.cdl_cards.specs.Words.{PlacedWord}
use Rattle.cdl_cards.specs.Cards.{Card}
use Rattle.cdl_cards.specs.Left.{word_of}
use Rattle.cdl_cards.specs.declared.line.Word.{Word}
use Rattle.cdl_reader.specs.Words.{Fault, too_long, no_name, fault_of, first_fault, fault_among, kind_of_card, behind, operands}
use Rattle.cdl_reader.specs.Actions.{enter, begin, close, fault_of_transistor, word_bytes}
use Rattle.cdl_reader.specs.Parts.{transistor_of}
use Rattle.cdl_reader.specs.Grammar.{CardRule, body, netlist, nothing_more}
use Rattle.cdl_reader.specs.Told.{Answer, at_card}
use Rattle.cdl_reader.specs.declared.kinds.CardKind.{CardKind}
use Rattle.cdl_reader.specs.declared.kinds.CardKind.TheVariants as kinds
use Rattle.cdl_reader.specs.declared.names.WordFault.{WordFault}
use Rattle.cdl_reader.specs.declared.names.WordFault.TheVariants as faults
use Rattle.cdl_reader.specs.declared.parts.Parts.{Parts}
use Rattle.cdl_reader.specs.declared.reader.Phase.{Phase}
use Rattle.cdl_reader.specs.declared.reader.Phase.TheVariants as phases
use Rattle.cdl_reader.specs.declared.reader.Reader.{Reader}
use Rattle.cdl_reader.specs.declared.transistors.Terminals.{Terminals}
use Rattle.file_rules.specs.Told.{TellsSome}

-- the fault is this one, unless memory ran out
abbrev pub IsFault : WordFault → Option Fault → Type 0
IsFault faults.NoMemory o = Unit {0}
IsFault faults.TooLong o = o ≡ Some too_long
IsFault (faults.NoName w) o = o ≡ Some (no_name (word_of w))

-- the next name of a card with this first word was read
abbrev pub IsNextName : Limits → PlacedWord → List PlacedWord → List PlacedWord → Result Word WordFault → Type 0
IsNextName limits first old new (Ok w) = (old ≡ word_of w ∷ new) × (fault_of limits (word_of w) ≡ None)
IsNextName limits first old new (Err f) = (n : ℕ) → IsFault f (fault_among limits first (suc n) old)

-- the pins of a card were read
abbrev pub ArePins : Limits → List PlacedWord → Result (List (List ℕ)) WordFault → Type 0
ArePins limits ws (Ok pins) = (first_fault limits ws ≡ None) × (pins ≡ map word_bytes ws)
ArePins limits ws (Err f) = IsFault f (first_fault limits ws)

-- there is no refusal, or it is this one
abbrev pub Unless : {U : Type 0} → Result U FileRefusal → Option FileRefusal → Type 0
Unless (Ok u) o = o ≡ None
Unless (Err e) o = TellsSome e o

-- the names of a transistor that are kept
abbrev pub transistor_by : Terminals → Transistor
transistor_by t = record { name = t.name.bytes.now; drain = t.drain.bytes.now; gate = t.gate.bytes.now; source = t.source.bytes.now; model = t.model.bytes.now }

-- the names of a card were read
abbrev pub AreTerminals : Limits → Card → Result Terminals WordFault → Type 0
AreTerminals limits card (Ok t) = (fault_of_transistor limits card ≡ None) × (transistor_of card ≡ Some (transistor_by t))
AreTerminals limits card (Err f) = IsFault f (fault_of_transistor limits card)

-- the transistor of a card was read
abbrev pub IsTransistor : Limits → Card → Result Transistor WordFault → Type 0
IsTransistor limits card (Ok t) = (fault_of_transistor limits card ≡ None) × (transistor_of card ≡ Some t)
IsTransistor limits card (Err f) = IsFault f (fault_of_transistor limits card)

-- what is still to come
abbrev pub to_come : Limits → Phase → CardRule
to_come limits phases.Outside = netlist limits
to_come limits phases.Inside = seq (body limits) (netlist limits)
to_come limits phases.Nameless = seq nothing_more (netlist limits)

-- what reading on gives
abbrev pub reads : Limits → Reader → List Card → Answer
reads limits m cs = read_all (to_come limits m.phase) m.parts cs

abbrev pub is_named : List PlacedWord → Bool
is_named [] = false
is_named (w ∷ ws) = true

abbrev pub phase_after : List PlacedWord → Phase
phase_after [] = phases.Nameless
phase_after (w ∷ ws) = phases.Inside

abbrev pub moved : Phase → Result Parts FileRefusal → Result Reader FileRefusal
moved phase (Ok s) = Ok (record { phase = phase; parts = s })
moved phase (Err e) = Err e

abbrev pub taken_outside : Limits → CardKind → Card → Reader → Result Reader FileRefusal
taken_outside limits kinds.Begin card m = moved (phase_after (operands (behind card))) (begin limits card m.parts)
taken_outside limits kinds.End card m = Err (at_card card)
taken_outside limits kinds.Stray card m = Err (at_card card)
taken_outside limits _ card m = Ok m

abbrev pub taken_inside : Limits → CardKind → Card → Reader → Result Reader FileRefusal
taken_inside limits kinds.Begin card m = Err (at_card card)
taken_inside limits kinds.End card m = moved phases.Outside (close limits card m.parts)
taken_inside limits kinds.Stray card m = Err (at_card card)
taken_inside limits _ card m = moved phases.Inside (enter limits card m.parts)

abbrev pub taken_by : Limits → Phase → Card → Reader → Result Reader FileRefusal
taken_by limits phases.Outside card m = taken_outside limits (kind_of_card card) card m
taken_by limits phases.Inside card m = taken_inside limits (kind_of_card card) card m
taken_by limits phases.Nameless card m = Err (at_card card)

-- what a card leads to
unfoldable pub taken : Limits → Card → Reader → Result Reader FileRefusal
taken limits card m = taken_by limits m.phase card m
