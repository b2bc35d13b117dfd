use Rattle.std.proofs.Common.{refl}
use Rattle.tern_core.specs.declared.tern.Tern.TheVariants as tern
use Rattle.liberty_function.specs.Function.{constant}
use Rattle.liberty_meaning.proofs.outputs.optional_program.Goals as goal

pub returns-in_ok-of_source-in-None : goal.returns-in_ok-of_source-in-None
returns-in_ok-of_source-in-None c = (constant tern.Zero, rw c.in-None.is refl, c.in_ok-of_source-in-None.ensures)
