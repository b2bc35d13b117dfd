use Rattle.std.proofs.Common.{◌++◌, refl}
use Rattle.pin_tables.specs.Findings.{pins_of, viewed_pins}
use Rattle.pin_tables.specs.Lookups.{strangers}
use Rattle.pin_tables.proofs.Indexes.{joins_empty}
use Rattle.pin_tables.proofs.Lists.{strangers_join}
use Rattle.pin_tables.proofs.findings.other_pins.Goals as goal

pub returns : goal.returns
returns c =
    let v = c.args.views.now in
    let l = c.args.liberty.now in
    let none = c.new-others.result in
    let new = c.add_strangers-3.new.others in
    joins_empty (strangers l (viewed_pins v)) none new c.new-others.ensures
    (strangers_join l none c.add_strangers-2.new.others new (pins_of v.verilog ++ pins_of v.cdl) (pins_of v.lef) (viewed_pins v) refl
    (strangers_join l none c.add_strangers.new.others c.add_strangers-2.new.others (pins_of v.verilog) (pins_of v.cdl) (pins_of v.verilog ++ pins_of v.cdl) refl
    c.in_ok-add_strangers.ensures c.in_ok-add_strangers-2.ensures)
    c.in_ok-add_strangers-3.ensures)
