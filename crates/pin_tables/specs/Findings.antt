-- Where the pins of the views differ.
use Rattle.std.specs.Prelude.{◌≡◌, ℕ, if◌then◌else◌, is_some, is_none, List, [], ◌∷◌, ◌++◌, map, filter, Option, Some, None}
use Rattle.std.specs.List.{flat_map, list_any}
use Rattle.std.specs.List.Sorted.{IsStrictlySortedBy}
use Rattle.std.specs.Cmp.Lexicographic.{slice_cmp}
use Rattle.std.specs.Ordering.{nat_cmp}
use Rattle.std.specs.Str.{bytes_eq}
use Rattle.verdict_text.specs.declared.finding.View.{View}
use Rattle.verdict_text.specs.declared.finding.View.TheVariants.{Liberty, Verilog, Cdl, Lef}
use Rattle.verdict_text.specs.declared.finding.Code.{Code}
use Rattle.verdict_text.specs.declared.finding.Code.TheVariants.{P1, P2}
use Rattle.verdict_text.specs.declared.finding.Finding.{Finding}
use Rattle.pin_tables.specs.declared.table.Pin.{Pin}
use Rattle.pin_tables.specs.declared.table.PinTable.{PinTable}
use Rattle.pin_tables.specs.declared.table.FourViews.{FourViews}
use Rattle.pin_tables.specs.Tables.{role_of, said_of}
use Rattle.pin_tables.specs.Rules.{broken}

-- a finding about pins, which no waiver covers yet
abbrev pub finding : Code → Option (List ℕ) → View → Finding
finding code pin view = record { code = code; pin = pin; view = view; mismatch = None; waiver = None }

abbrev pub only : Finding → List Finding
only f = f ∷ []

-- Absent views

abbrev pub absent : View → Option PinTable → List Finding
absent view None = only (finding P1 None view)
absent view (Some table) = []

abbrev pub all_absent : FourViews → List Finding
all_absent views = absent Verilog views.verilog ++ absent Cdl views.cdl ++ absent Lef views.lef

-- Liberty's pins

abbrev pub findings_at : View → List ℕ → Option Code → List Finding
findings_at view name None = []
findings_at view name (Some code) = only (finding code (Some name) view)

-- at one pin, in a view that may be absent
abbrev pub at_view : View → Option PinTable → Pin → List Finding
at_view view None pin = []
at_view view (Some table) pin = findings_at view pin.name (broken view (role_of pin) (said_of table.pins pin.name))

abbrev pub at_pin : FourViews → Pin → List Finding
at_pin views pin = at_view Verilog views.verilog pin ++ at_view Cdl views.cdl pin ++ at_view Lef views.lef pin

-- the pins whose name no pin before them has, where these stand before the list
abbrev pub first_pins : List Pin → List Pin → List Pin
first_pins before [] = []
first_pins before (p ∷ pins) = (if is_some (said_of before p.name) then [] else p ∷ []) ++ first_pins (before ++ p ∷ []) pins

-- Names that Liberty lacks

abbrev pub pins_of : Option PinTable → List Pin
pins_of None = []
pins_of (Some table) = table.pins

-- the pins of all other views
abbrev pub viewed_pins : FourViews → List Pin
viewed_pins views = pins_of views.verilog ++ pins_of views.cdl ++ pins_of views.lef

-- those whose name these pins lack
abbrev pub unknown_to : List Pin → List Pin → List Pin
unknown_to liberty pins = filter (λ p. is_none (said_of liberty p.name)) pins

-- the names of these pins, each once, in the order of their bytes
abbrev pub AreNamesOf : List Pin → List (List ℕ) → Type 0
AreNamesOf pins names = IsStrictlySortedBy (slice_cmp nat_cmp) names × ((q : List ℕ) → list_any (bytes_eq q) names ≡ is_some (said_of pins q))

abbrev pub lacking : List ℕ → Finding
lacking name = finding P2 (Some name) Liberty

-- The findings of absent views; then those at Liberty's pins in their order; then those of the names that Liberty lacks.
abbrev pub ArePinFindings : FourViews → List Finding → Type 0
ArePinFindings views found =
    (others : List (List ℕ)) × AreNamesOf (unknown_to views.liberty.pins (viewed_pins views)) others
    × (found ≡ all_absent views ++ flat_map (at_pin views) (first_pins [] views.liberty.pins) ++ map lacking others)
