use Rattle.std.proofs.Common.{Ok, Err}
use Rattle.text_scan.specs.declared.refusal.FileRefusal.TheVariants as refusals
use Rattle.liberty_reader.proofs.Public.{kept, lawful_of, made, answered, only_one}
use Rattle.liberty_reader.proofs.public_call.read_library.Goals as goal

pub returns-in-Err-clause-answered : goal.returns-in-Err-clause-answered
returns-in-Err-clause-answered c = answered c.args.text.now c.args.limits.now (Err c.in-Err.refusal) (kept c.args.text.now c.args.limits.now c.in-Err.refusal c.in-Err.ensures)

pub returns-in-Err-clause-only : goal.returns-in-Err-clause-only
returns-in-Err-clause-only c = only_one c.args.text.now c.args.limits.now (Err c.in-Err.refusal) (kept c.args.text.now c.args.limits.now c.in-Err.refusal c.in-Err.ensures)

pub returns-in-Err-library-clause-answered : goal.returns-in-Err-library-clause-answered
returns-in-Err-library-clause-answered c = answered c.args.text.now c.args.limits.now (Err refusals.NoMemory) tt

pub returns-clause-answered : goal.returns-clause-answered
returns-clause-answered c = answered c.args.text.now c.args.limits.now (Ok c.in-Ok-library.made) (made c.args.text.now c.args.limits.now c.in-Ok.statements c.in-Ok-library.made c.in-Ok.ensures c.in-Ok-library.ensures)

pub returns-clause-only : goal.returns-clause-only
returns-clause-only c = only_one c.args.text.now c.args.limits.now (Ok c.in-Ok-library.made) (made c.args.text.now c.args.limits.now c.in-Ok.statements c.in-Ok-library.made c.in-Ok.ensures c.in-Ok-library.ensures)

pub returns-clause-kept : goal.returns-clause-kept
returns-clause-kept c = lawful_of c.args.text.now c.args.limits.now c.in-Ok.statements c.in-Ok-library.made c.in-Ok.ensures c.in-Ok-library.ensures
