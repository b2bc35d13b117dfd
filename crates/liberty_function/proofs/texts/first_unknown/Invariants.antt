use Rattle.std.proofs.Common.{◌≡◌, drop}
use Rattle.liberty_function.specs.Texts as spec
use Rattle.liberty_function.specs.Words.{bare}
use Rattle.liberty_function.proofs.texts.first_unknown.Given as goal

abbrev pub invariant-loop-placed : goal.invariant-loop-placed
invariant-loop-placed l = spec.unknown_among l.scope (bare l.words) ≡ spec.unknown_among l.scope (bare (drop l.placed-index l.words))
