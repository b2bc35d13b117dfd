use Rattle.pin_tables.proofs.Lists.{findings_are}
use Rattle.pin_tables.proofs.findings.pin_findings.Goals as goal

pub returns : goal.returns
returns c =
    findings_are c.args.views.now c.in_ok-lookups.lookups c.in_ok-liberty.liberty c.in_ok-others.others c.as_slice-pins.result.now
    c.new-found.result.items c.add_all_absent.new.found.items c.add_liberty.new.found.items c.add_others.new.found.items
    c.in_ok-lookups.ensures c.as_slice-pins.ensures c.new-found.ensures.items c.in_ok-add_all_absent.ensures c.in_ok-liberty.ensures.seen c.in_ok-liberty.ensures.found
    c.in_ok-others.ensures c.in_ok-add_others.ensures.found c.in_ok-add_others.ensures.sorted
