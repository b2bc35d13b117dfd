-- Findings as they are made from the pins of the views and the names that were seen.
use Rattle.std.specs.Prelude.{◌≡◌, ℕ, not, if◌then◌else◌, List, [], ◌++◌, map, filter, Option, Some, None}
use Rattle.std.specs.List.{flat_map}
use Rattle.std.specs.Option.{option_or}
use Rattle.std.specs.BTreeMap.{keys}
use Rattle.name_index.specs.Places.{is_known}
use Rattle.verdict_text.specs.declared.finding.View.{View}
use Rattle.verdict_text.specs.declared.finding.View.TheVariants.{Verilog, Cdl, Lef}
use Rattle.verdict_text.specs.declared.finding.Finding.{Finding}
use Rattle.pin_tables.specs.declared.table.Pin.{Pin}
use Rattle.pin_tables.specs.declared.table.PinTable.{PinTable}
use Rattle.pin_tables.specs.declared.table.FourViews.{FourViews}
use Rattle.pin_tables.specs.declared.index.PinIndex.{PinIndex}
use Rattle.pin_tables.specs.declared.findings.Lookups.{Lookups}
use Rattle.pin_tables.specs.Tables.{role_of, said_of}
use Rattle.pin_tables.specs.Rules.{broken}
use Rattle.pin_tables.specs.Findings as spec
use Rattle.pin_tables.specs.Index.{found}

-- the pins of a view, where the view is there
abbrev pub pins_in : Option PinTable → Option (List Pin)
pins_in None = None
pins_in (Some table) = Some table.pins

abbrev pub AreLookups : FourViews → Lookups → Type 0
AreLookups views lookups = (lookups.verilog ≡ pins_in views.verilog) × (lookups.cdl ≡ pins_in views.cdl) × (lookups.lef ≡ pins_in views.lef)

abbrev pub at_view : View → Option (List Pin) → Pin → List Finding
at_view view None pin = []
at_view view (Some pins) pin = spec.findings_at view pin.name (broken view (role_of pin) (said_of pins pin.name))

abbrev pub at_pin : Lookups → Pin → List Finding
at_pin lookups pin = at_view Verilog lookups.verilog pin ++ at_view Cdl lookups.cdl pin ++ at_view Lef lookups.lef pin

-- one pin's findings, unless its name was seen
abbrev pub unless_seen : List (List ℕ) → Lookups → Pin → List Finding
unless_seen seen lookups pin = if is_known pin.name seen then [] else at_pin lookups pin

abbrev pub at_first_pins : Lookups → List Pin → List Finding
at_first_pins lookups pins = flat_map (at_pin lookups) (spec.first_pins [] pins)

-- the index after pins were added
abbrev pub Joins : List Pin → PinIndex → PinIndex → Type 0
Joins pins old new = (q : List ℕ) → found new q ≡ option_or (found old q) (said_of pins q)

-- the pins whose name isn't among these
abbrev pub strangers : List (List ℕ) → List Pin → List Pin
strangers names pins = filter (λ p. not (is_known p.name names)) pins

abbrev pub names_in : PinIndex → List (List ℕ)
names_in index = map (λ k. k.items) (keys index.roles)
