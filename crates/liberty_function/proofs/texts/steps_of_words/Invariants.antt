use Rattle.std.proofs.Common.{◌≤◌, take}
use Rattle.liberty_function.specs.Compiling.{standing_of}
use Rattle.liberty_function.specs.Sources.{sources_of}
use Rattle.liberty_function.specs.Words.{bare}
use Rattle.liberty_function.proofs.Accepts.{IsAfter}
use Rattle.liberty_function.proofs.texts.steps_of_words.Given as goal

abbrev pub invariant-loop-placed : goal.invariant-loop-placed
invariant-loop-placed l = record {
  after : IsAfter (sources_of l.scope) (bare (take l.placed-index l.words)) (standing_of l.compiler);
  short : l.compiler.part.inversions ≤ l.placed-index;
}
