use Rattle.std.proofs.Common.{◌≡◌, ◌++◌, replicate}
use Rattle.liberty_function.specs.declared.program.Step.TheVariants.{Invert}
use Rattle.liberty_function.proofs.compiler.push_inversions.Given as goal

abbrev pub invariant-loop : goal.invariant-loop
invariant-loop l = l.steps ≡ l.fn.steps ++ replicate l.counter Invert
