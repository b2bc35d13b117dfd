-- What cards add to a netlist, or why it is refused.
use Rattle.std.specs.Prelude.{ℕ, nat_le, if◌then◌else◌, List, [], ◌∷◌, ◌++◌, length, map, Option, Some, None, Result, Ok, Err}
use Rattle.name_index.specs.Places.{is_known}
use Rattle.text_scan.specs.declared.limits.Limits.{Limits}
use Rattle.text_scan.specs.declared.limits.LimitKind.TheVariants as limit_kinds
use Rattle.text_scan.specs.declared.refusal.FileRefusal.{FileRefusal}
use Rattle.text_scan.specs.declared.refusal.FileRefusal.TheVariants as refusals
use Rattle.file_rules.specs.Refusals.{too_many}
use Rattle.cdl_cards.specs.Words.{PlacedWord}
use Rattle.cdl_cards.specs.Cards.{Card}
use Rattle.cdl_reader.specs.Words.{Fault, too_long, no_name, first_of, fault_of, first_fault, fault_among, kind_of_card, behind, operands}
use Rattle.cdl_reader.specs.Pins.{told_by_words}
use Rattle.cdl_reader.specs.Parts.{made, no_part, refused_at, transistor_of, with_transistor}
use Rattle.cdl_reader.specs.declared.kinds.CardKind.{CardKind}
use Rattle.cdl_reader.specs.declared.kinds.CardKind.TheVariants as kinds
use Rattle.cdl_reader.specs.declared.part.Part.{Part}
use Rattle.cdl_reader.specs.declared.parts.Parts.{Parts}

abbrev pub at_word : PlacedWord → FileRefusal
at_word w = refusals.Syntax w.line w.column

-- ---- a card of a subcircuit

abbrev pub adds : Limits → Option Fault → Part → Part → Result Part FileRefusal
adds limits None new old = Ok new
adds limits (Some too_long) new old = Err (too_many limits limit_kinds.Name)
adds limits (Some (no_name w)) new old = Ok (refused_at w old)

-- the card's first word
abbrev pub refused_by : Card → Part → Part
refused_by [] p = p
refused_by (w ∷ ws) p = refused_at w p

abbrev pub fault_of_transistor : Limits → Card → Option Fault
fault_of_transistor limits [] = None
fault_of_transistor limits (w ∷ ws) = fault_among limits w 6 (w ∷ ws)

-- a transistor has six names; a card of another kind that isn't passed over refuses
abbrev pub entered : Limits → CardKind → Card → Part → Result Part FileRefusal
entered limits kinds.Transistor card p = adds limits (fault_of_transistor limits card) (with_transistor (transistor_of card) p) p
entered limits kinds.Capacitor card p = Ok p
entered limits kinds.PinInfo card p = Ok (record p { told = p.told ++ told_by_words (behind card) })
entered limits kinds.Begin card p = Ok (refused_by card p)
entered limits kinds.End card p = Ok (refused_by card p)
entered limits kinds.Stray card p = Ok (refused_by card p)
entered limits kinds.Other card p = Ok (refused_by card p)

-- after the first refusal the subcircuit is unread
abbrev pub unless_refused : {X Y : Type 0} → Option X → Y → Y → Y
unless_refused None read unread = read
unless_refused (Some x) read unread = unread

unfoldable pub enter_part : Limits → Card → Part → Result Part FileRefusal
enter_part limits card p = unless_refused p.refusal (entered limits (kind_of_card card) card p) (Ok p)

abbrev pub with_part : Parts → Result Part FileRefusal → Result Parts FileRefusal
with_part s (Ok p) = Ok (record s { part = p })
with_part s (Err e) = Err e

-- what a card of a subcircuit adds
unfoldable pub enter : Limits → Card → Parts → Result Parts FileRefusal
enter limits card s = with_part s (enter_part limits card s.part)

-- ---- the beginning of a subcircuit

abbrev pub word_bytes : PlacedWord → List ℕ
word_bytes w = w.bytes

abbrev pub named_part : List ℕ → Part
named_part name = record no_part { name = name }

-- a subcircuit of this name and these pins
unfoldable pub begun_part : Limits → List ℕ → List PlacedWord → Result Part FileRefusal
begun_part limits name pins = adds limits (first_fault limits pins) (record no_part { name = name; pins = map word_bytes pins }) (named_part name)

abbrev pub double_name : PlacedWord → FileRefusal
double_name w = refusals.DoubleName w.bytes w.line

-- what is told of a fault
abbrev pub refusal_by : Limits → Option Fault → Option FileRefusal
refusal_by limits None = None
refusal_by limits (Some too_long) = Some (too_many limits limit_kinds.Name)
refusal_by limits (Some (no_name w)) = Some (at_word w)

-- why a word can't name a subcircuit
abbrev pub name_refusal : Limits → List (List ℕ) → PlacedWord → Option FileRefusal
name_refusal limits names w = first_of (refusal_by limits (fault_of limits w)) (if is_known w.bytes names then Some (double_name w) else None)

abbrev pub unless_told : {X : Type 0} → Option FileRefusal → Result X FileRefusal → Result X FileRefusal
unless_told None r = r
unless_told (Some e) r = Err e

-- the name first, and then the pins; where there is no name, nothing can follow
abbrev pub opened : Limits → Parts → List PlacedWord → Result Parts FileRefusal
opened limits s [] = Ok s
opened limits s (name ∷ pins) =
    unless_told (name_refusal limits s.names name) (with_part (record s { names = s.names ++ name.bytes ∷ [] }) (begun_part limits name.bytes pins))

-- what the first card of a subcircuit adds
unfoldable pub begin : Limits → Card → Parts → Result Parts FileRefusal
begin limits card s =
    if nat_le limits.cells (length s.parts) then Err (too_many limits limit_kinds.Cells)
    else opened limits s (operands (behind card))

-- ---- the end of a subcircuit

abbrev pub more_refusal : List PlacedWord → Option FileRefusal
more_refusal [] = None
more_refusal (w ∷ ws) = Some (at_word w)

-- a name, if any, and no more
abbrev pub end_refusal : Limits → List PlacedWord → Option FileRefusal
end_refusal limits [] = None
end_refusal limits (w ∷ ws) = first_of (refusal_by limits (fault_of limits w)) (more_refusal ws)

-- what the last card of a subcircuit adds
unfoldable pub close : Limits → Card → Parts → Result Parts FileRefusal
close limits card s = unless_told (end_refusal limits (behind card)) (Ok (record s { parts = s.parts ++ made s.part ∷ []; part = no_part }))
