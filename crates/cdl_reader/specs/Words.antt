-- The words of a card, and what is wrong with them.
use Rattle.std.specs.Prelude.{ℕ, zero, suc, Bool, ◌==◌, ◌||◌, if◌then◌else◌, List, [], ◌∷◌, codes, Option, Some, None}
use Rattle.std.specs.List.{list_any}
use Rattle.text_scan.specs.Bytes.{begins_with}
use Rattle.text_scan.specs.declared.limits.Limits.{Limits}
use Rattle.cdl_cards.specs.Words.{PlacedWord}
use Rattle.cdl_cards.specs.Cards.{Card}
use Rattle.cdl_cards.specs.Kinds.{is_same_word, is_pin_info}
use Rattle.file_rules.specs.Names.{is_name, is_too_long}
use Rattle.cdl_reader.specs.declared.kinds.CardKind.{CardKind}
use Rattle.cdl_reader.specs.declared.kinds.CardKind.TheVariants as kinds

-- what a card is, by its first word; the case of its letters doesn't matter
unfoldable pub kind_of_word : List ℕ → CardKind
kind_of_word bytes =
    if begins_with 77 bytes || begins_with 109 bytes then kinds.Transistor
    else if begins_with 67 bytes || begins_with 99 bytes then kinds.Capacitor
    else if begins_with 43 bytes then kinds.Stray
    else if is_same_word bytes (codes ".SUBCKT") then kinds.Begin
    else if is_same_word bytes (codes ".ENDS") then kinds.End
    else if is_pin_info bytes then kinds.PinInfo
    else kinds.Other

abbrev pub kind_of_card : Card → CardKind
kind_of_card [] = kinds.Other
kind_of_card (w ∷ ws) = kind_of_word w.bytes

-- the words behind the first
abbrev pub behind : Card → List PlacedWord
behind [] = []
behind (w ∷ ws) = ws

abbrev pub has_equals : List ℕ → Bool
has_equals bytes = list_any (λ b. b == 61) bytes

-- the words without those that have a =
unfoldable pub operands : List PlacedWord → List PlacedWord
operands [] = []
operands (w ∷ ws) = if has_equals w.bytes then operands ws else w ∷ operands ws

-- what is wrong with a word that should be a name
pub data Fault : Type 0 where
  too_long : Fault
  no_name : PlacedWord → Fault

abbrev pub first_of : {X : Type 0} → Option X → Option X → Option X
first_of None next = next
first_of (Some x) next = Some x

-- its length is judged first
unfoldable pub fault_of : Limits → PlacedWord → Option Fault
fault_of limits w = if is_too_long limits w.bytes then Some too_long else if is_name w.bytes then None else Some (no_name w)

-- the first fault of some words
unfoldable pub first_fault : Limits → List PlacedWord → Option Fault
first_fault limits [] = None
first_fault limits (w ∷ ws) = first_of (fault_of limits w) (first_fault limits ws)

-- the first fault of the first n of some words; where there are fewer, the lack is told of this word
unfoldable pub fault_among : Limits → PlacedWord → ℕ → List PlacedWord → Option Fault
fault_among limits first zero ws = None
fault_among limits first (suc n) [] = Some (no_name first)
fault_among limits first (suc n) (w ∷ ws) = first_of (fault_of limits w) (fault_among limits first n ws)
