use Rattle.std.proofs.Common.{Ok, Err}
use Rattle.lef_reader.proofs.Public.{made, kept, only_one}
use Rattle.lef_reader.proofs.Lawful.{lawful}
use Rattle.lef_reader.proofs.public_call.read_lef.Goals as goal

pub returns-in-Err-clause-answered : goal.returns-in-Err-clause-answered
returns-in-Err-clause-answered c = kept c.args.text.now c.args.limits.now c.in-Err.refusal c.in-Err.ensures

pub returns-in-Err-clause-only : goal.returns-in-Err-clause-only
returns-in-Err-clause-only c = only_one c.args.text.now c.args.limits.now (Err c.in-Err.refusal) (kept c.args.text.now c.args.limits.now c.in-Err.refusal c.in-Err.ensures)

pub returns-in-Ok-clause-answered : goal.returns-in-Ok-clause-answered
returns-in-Ok-clause-answered c = made c.args.text.now c.args.limits.now c.in-Ok.file c.lef_of.result c.in-Ok.ensures c.lef_of.ensures

pub returns-in-Ok-clause-only : goal.returns-in-Ok-clause-only
returns-in-Ok-clause-only c = only_one c.args.text.now c.args.limits.now (Ok c.lef_of.result) (made c.args.text.now c.args.limits.now c.in-Ok.file c.lef_of.result c.in-Ok.ensures c.lef_of.ensures)

pub returns-in-Ok-clause-kept : goal.returns-in-Ok-clause-kept
returns-in-Ok-clause-kept c = lawful c.args.text.now c.args.limits.now c.lef_of.result (made c.args.text.now c.args.limits.now c.in-Ok.file c.lef_of.result c.in-Ok.ensures c.lef_of.ensures)
