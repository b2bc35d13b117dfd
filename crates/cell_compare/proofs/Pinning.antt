-- The pins of a cell and of its module.
use Rattle.std.proofs.Common.{◌≡◌, ◌≤◌, refl, sym, ◌∙◌, ap, arith, List, [], ◌∷◌, ◌++◌, length, length-append, append-nil, if◌then◌else◌, Option, None, Bool, true, false, ◌||◌, nat_lt}
use Rattle.std.specs.List.{list_any}
use Rattle.std.proofs.lemmas.Bool.Decides.{nat_tests}
use Rattle.text_scan.specs.declared.pins.Direction.{Direction}
use Rattle.text_scan.specs.declared.pins.Direction.TheVariants.{Input, Output, Inout, Feedthru, Internal, Absent}
use Rattle.liberty_source.specs.declared.LibertyCell.{LibertyCell}
use Rattle.liberty_source.specs.declared.LibertyPin.{LibertyPin}
use Rattle.verilog_source.specs.declared.module.Module.{Module}
use Rattle.liberty_meaning.specs.Names.{output_pins, is_direction_output}
use Rattle.pin_tables.specs.declared.table.Pin.{Pin}
use Rattle.pin_tables.specs.Makers.{as_pin, cell_pin, cell_pins, lent_supplies, is_internal, is_supply_pin}
use Rattle.pin_tables.specs.Findings.{ArePinFindings}
use Rattle.verdict_text.specs.declared.finding.Finding.{Finding}
use Rattle.cell_compare.specs.Pins.{two_views, have_many_pins, any_has_many, pins_of, compared, own_supplies, own_supply, supplies_in, supply_at, supply_value}

outputs_of_one : (d : Direction) → is_direction_output d ≡ true → is_internal d ≡ false
outputs_of_one Input e = absurd cc
outputs_of_one Output e = refl
outputs_of_one Inout e = absurd cc
outputs_of_one Feedthru e = absurd cc
outputs_of_one Internal e = absurd cc
outputs_of_one Absent e = absurd cc

one_more : (p : LibertyPin) (pins : List LibertyPin) (b : Bool) → is_direction_output p.direction ≡ b → length (output_pins pins) ≤ length (cell_pins pins)
    → length (output_pins (p ∷ pins)) ≤ length (cell_pins (p ∷ pins))
one_more p pins true e rest =
    let n = length-append (cell_pin p) (cell_pins pins) in
    let one : length (cell_pin p) ≡ 1 = rw (outputs_of_one p.direction e) refl in
    rw e (omega arith)
one_more p pins false e rest = let n = length-append (cell_pin p) (cell_pins pins) in rw e (omega arith)

pub outputs_within : (pins : List LibertyPin) → length (output_pins pins) ≤ length (cell_pins pins)
outputs_within [] = omega arith
outputs_within (p ∷ pins) = one_more p pins (is_direction_output p.direction) refl (outputs_within pins)

either_false : (a b : Bool) → (a || b) ≡ false → a ≡ false
either_false true b e = absurd cc
either_false false b e = refl

-- a cell whose views have few pins has few outputs
pub few_outputs : (cell : LibertyCell) (m : Option Module) → have_many_pins (two_views cell m) ≡ false → length (output_pins cell.pins) ≤ 64
few_outputs cell m h =
    let few : nat_lt 64 (length (pins_of cell).pins) ≡ false = either_false (nat_lt 64 (length (pins_of cell).pins)) (any_has_many (two_views cell m).verilog) h in
    let less : length (cell_pins cell.pins ++ lent_supplies cell.pins []) ≤ 64 = grind (arith, nat_tests, few) in
    let n = length-append (cell_pins cell.pins) (lent_supplies cell.pins []) in
    let outputs = outputs_within cell.pins in
    omega arith

-- a cell's supplies are those of its table

own_at : (b : Bool) (p : LibertyPin) (rest : List Pin) → supply_at p.name (if b then None else supply_value p.kind) ++ supplies_in rest ≡ supplies_in ((if b then [] else as_pin p ∷ []) ++ rest)
own_at true p rest = refl
own_at false p rest = refl

own_pins : (pins : List LibertyPin) → own_supplies pins ≡ supplies_in (cell_pins pins)
own_pins [] = refl
own_pins (p ∷ pins) = ap (λ zs. own_supply p ++ zs) (own_pins pins) ∙ own_at (is_internal p.direction) p (cell_pins pins)

none_lent : (b : Bool) → ◌≡◌ {A = List Pin} (if b then [] else []) []
none_lent true = refl
none_lent false = refl

pub supplies_own : (pins : List LibertyPin) → own_supplies pins ≡ supplies_in (cell_pins pins ++ lent_supplies pins [])
supplies_own pins =
    own_pins pins ∙ ap supplies_in (sym (ap (λ zs. cell_pins pins ++ zs) (none_lent (list_any is_supply_pin pins)) ∙ append-nil (cell_pins pins)))

-- where the module is absent there is a finding
pub absent_module : (cell : LibertyCell) (found : List Finding) → ArePinFindings (two_views cell None) found → compared found ≡ [] → ⊥
absent_module cell found are e = let f = ap compared are.2 in let g = sym f ∙ e in cc
