use Rattle.std.proofs.Common.{rules}
use Rattle.std.proofs.lemmas.Fn.{always_returns_same}
use Rattle.waiver_source.specs.Index.{is_before, words_for}
use Rattle.waiver_source.proofs.Found.{first_from_cut, partitioned}
use Rattle.waiver_source.proofs.finding.first_at.Goals as goal

pub returns : goal.returns
returns c = λ waivers ix.
    let es = c.args.index.now in
    let q = words_for c.args.cell.now c.args.code c.args.pin.now in
    let cut = c.partition_point.ensures.partitioned (is_before q c.args.day) (always_returns_same _ _ _ (λ a r f h. search rules)) (partitioned waivers es ix q c.args.day) in
    first_from_cut es q c.args.day c.partition_point.result c.partition_point.ensures.bound cut
