use Rattle.std.proofs.lemmas.Result.{IfOk-weaker}
use Rattle.std.specs.Option.{option_copied}
use Rattle.cell_compare.specs.Compare.{IsOverPart}
use Rattle.cell_compare.specs.Equal.{SaysEqual, IsEqualPart}
use Rattle.cell_compare.proofs.Equal.{whole_part}
use Rattle.cell_compare.proofs.judging.compare_part.Goals as goal

pub returns-in-Whole-clause-equal : goal.returns-in-Whole-clause-equal
returns-in-Whole-clause-equal c =
    IfOk-weaker c.over_part.result (IsOverPart c.in-Whole.cell (option_copied c.module.result) c.args.models.now.primitives) (λ k. SaysEqual k → IsEqualPart c.args.part.now c.args.models.now)
    (λ k i s. whole_part c.in-Whole.cell c.args.part.now c.args.models.now (option_copied c.module.result) c.as_bytes-in-Whole.result.now k c.in-Whole.is c.module.ensures c.as_bytes-in-Whole.ensures i s)
    c.over_part.ensures
