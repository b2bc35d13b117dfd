use Rattle.waiver_source.proofs.Listed.{permuted}
use Rattle.waiver_source.proofs.indexing.entries_of.Goals as goal

pub raised-requires : goal.raised-requires
raised-requires c =
    (permuted c.args.waivers.now c.in_ok-keys.keys.items c.sort.new.self.items c.in_ok-sort.ensures.permutation c.in_ok-keys.ensures, c.in_ok-sort.ensures.sorted)
