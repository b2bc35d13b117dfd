use Rattle.std.proofs.Common.{sym, ◌∙◌, ap, Err}
use Rattle.cdl_reader.proofs.Follows.{ends_early, ends_well}
use Rattle.cdl_reader.proofs.reader.Reader.into_netlist.Goals as goal

pub returns-in-Outside : goal.returns-in-Outside
returns-in-Outside c = sym (ends_well c.args.text.now c.args.limits.now c.args.self c.in-Outside.is)

pub returns-in_default : goal.returns-in_default
returns-in_default c = ap Err c.at_end.ensures ∙ sym (ends_early c.args.text.now c.args.limits.now c.args.self c.in_default.not-Outside)
