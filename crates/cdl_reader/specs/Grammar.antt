-- A netlist as a rule over the cards of its text.
use Rattle.std.specs.Prelude.{Bool, true, false, List, [], ◌∷◌, Result, Ok}
use Rattle.text_scan.specs.declared.limits.Limits.{Limits}
use Rattle.text_scan.specs.declared.refusal.FileRefusal.{FileRefusal}
use Rattle.grammar.specs.Rule.{Rule, none, one, before, seq, alt, many}
use Rattle.cdl_cards.specs.Words.{PlacedWord}
use Rattle.cdl_cards.specs.Cards.{Card}
use Rattle.cdl_reader.specs.Words.{kind_of_card, behind, operands}
use Rattle.cdl_reader.specs.Actions.{enter, begin, close}
use Rattle.cdl_reader.specs.Parts.{no_part}
use Rattle.cdl_reader.specs.declared.kinds.CardKind.{CardKind}
use Rattle.cdl_reader.specs.declared.kinds.CardKind.TheVariants as kinds
use Rattle.cdl_reader.specs.declared.parts.Parts.{Parts}

abbrev pub CardRule : Type 0
CardRule = Rule Card Parts FileRefusal

abbrev pub is_begin : CardKind → Bool
is_begin kinds.Begin = true
is_begin kinds.End = false
is_begin kinds.Transistor = false
is_begin kinds.Capacitor = false
is_begin kinds.PinInfo = false
is_begin kinds.Stray = false
is_begin kinds.Other = false

abbrev pub is_end : CardKind → Bool
is_end kinds.Begin = false
is_end kinds.End = true
is_end kinds.Transistor = false
is_end kinds.Capacitor = false
is_end kinds.PinInfo = false
is_end kinds.Stray = false
is_end kinds.Other = false

-- neither begins nor ends a subcircuit, nor a + line that no card stands before
abbrev pub is_plain : CardKind → Bool
is_plain kinds.Begin = false
is_plain kinds.End = false
is_plain kinds.Transistor = true
is_plain kinds.Capacitor = true
is_plain kinds.PinInfo = true
is_plain kinds.Stray = false
is_plain kinds.Other = true

-- a card of this kind with its action, and then nothing
abbrev pub card : (CardKind → Bool) → (Card → Parts → Result Parts FileRefusal) → CardRule
card test action = one (λ c. test (kind_of_card c)) action (λ c. none)

abbrev pub keep : Card → Parts → Result Parts FileRefusal
keep c s = Ok s

abbrev pub nothing_more : CardRule
nothing_more = before (λ c. false)

-- the cards of a subcircuit, and its end
unfoldable pub body : Limits → CardRule
body limits = seq (many (card is_plain (enter limits))) (card is_end (close limits))

-- what follows the first card of a subcircuit: nothing, where it has no name
abbrev pub after_begin : Limits → List PlacedWord → CardRule
after_begin limits [] = nothing_more
after_begin limits (w ∷ ws) = body limits

abbrev pub subcircuit : Limits → CardRule
subcircuit limits = one (λ c. is_begin (kind_of_card c)) (begin limits) (λ c. after_begin limits (operands (behind c)))

abbrev pub item : Limits → CardRule
item limits = alt (card is_plain keep) (subcircuit limits)

-- outside subcircuits other cards are passed over
unfoldable pub netlist : Limits → CardRule
netlist limits = many (item limits)

-- before the first card
abbrev pub nothing : Parts
nothing = record { names = []; parts = []; part = no_part }
