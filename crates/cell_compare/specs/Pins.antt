-- The pins of a cell and of its module.
use Rattle.std.specs.Prelude.{ℕ, Bool, true, false, not, ◌||◌, nat_lt, if◌then◌else◌, List, [], ◌∷◌, map, filter, length, Option, Some, None}
use Rattle.std.specs.List.{flat_map}
use Rattle.text_scan.specs.declared.pins.PinKind.{PinKind}
use Rattle.text_scan.specs.declared.pins.PinKind.TheVariants.{Signal, Power, Ground}
use Rattle.tern_core.specs.declared.tern.Tern.{Tern}
use Rattle.tern_core.specs.declared.tern.Tern.TheVariants.{Zero, One}
use Rattle.liberty_source.specs.declared.LibertyCell.{LibertyCell}
use Rattle.liberty_source.specs.declared.LibertyPin.{LibertyPin}
use Rattle.liberty_meaning.specs.Names.{input_pins}
use Rattle.verilog_source.specs.declared.module.Module.{Module}
use Rattle.pin_tables.specs.declared.table.Pin.{Pin}
use Rattle.pin_tables.specs.declared.table.PinTable.{PinTable}
use Rattle.pin_tables.specs.declared.table.FourViews.{FourViews}
use Rattle.pin_tables.specs.Makers.{is_internal, liberty_table, module_table}
use Rattle.verdict_text.specs.declared.finding.Finding.{Finding}
use Rattle.verdict_text.specs.declared.finding.Code.{Code}
use Rattle.verdict_text.specs.declared.finding.Code.TheVariants.{P1}
use Rattle.verdict_text.specs.declared.finding.View.{View}
use Rattle.verdict_text.specs.declared.finding.View.TheVariants.{Cdl, Lef}

-- the pins of a cell without a technology's supplies
abbrev pub pins_of : LibertyCell → PinTable
pins_of cell = liberty_table cell []

-- the two views that are compared
abbrev pub verilog_table : Option Module → PinTable → Option PinTable
verilog_table None liberty = None
verilog_table (Some m) liberty = Some (module_table m liberty)

abbrev pub two_views : LibertyCell → Option Module → FourViews
two_views cell m = record {
  liberty = pins_of cell;
  verilog = verilog_table m (pins_of cell);
  cdl = None;
  lef = None;
}

abbrev pub has_many : PinTable → Bool
has_many table = nat_lt 64 (length table.pins)

abbrev pub any_has_many : Option PinTable → Bool
any_has_many None = false
any_has_many (Some table) = has_many table

-- a view of the cell has more than 64 pins
abbrev pub have_many_pins : FourViews → Bool
have_many_pins views = has_many views.liberty || any_has_many views.verilog

abbrev pub is_absence : Code → Bool
is_absence P1 = true
is_absence code = false

abbrev pub is_layout : View → Bool
is_layout Cdl = true
is_layout Lef = true
is_layout view = false

-- a view that isn't compared is absent
abbrev pub is_beside : Finding → Bool
is_beside f = if is_absence f.code then is_layout f.view else false

abbrev pub compared : List Finding → List Finding
compared found = filter (λ f. not (is_beside f)) found

-- ---- what the network is given

-- the input pins in Liberty's order
abbrev pub names_of_inputs : List LibertyPin → List (List ℕ)
names_of_inputs pins = map (λ (p : LibertyPin). p.name) (input_pins pins)

abbrev pub input_names : LibertyCell → List (List ℕ)
input_names cell = names_of_inputs cell.pins

-- power is at 1 and ground at 0
abbrev pub supply_value : PinKind → Option Tern
supply_value Signal = None
supply_value Power = Some One
supply_value Ground = Some Zero

abbrev pub supply_at : List ℕ → Option Tern → List (List ℕ × Tern)
supply_at name None = []
supply_at name (Some value) = (name, value) ∷ []

abbrev pub supply_of : Pin → List (List ℕ × Tern)
supply_of p = supply_at p.name (supply_value p.kind)

abbrev pub supplies_in : List Pin → List (List ℕ × Tern)
supplies_in pins = flat_map supply_of pins

abbrev pub supplies_of : LibertyCell → List (List ℕ × Tern)
supplies_of cell = supplies_in (pins_of cell).pins

-- the same of the cell's own pins, which need no table

abbrev pub own_value : LibertyPin → Option Tern
own_value p = if is_internal p.direction then None else supply_value p.kind

abbrev pub own_supply : LibertyPin → List (List ℕ × Tern)
own_supply p = supply_at p.name (own_value p)

abbrev pub own_supplies : List LibertyPin → List (List ℕ × Tern)
own_supplies pins = flat_map own_supply pins
