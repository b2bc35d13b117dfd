use Rattle.std.proofs.Common.{sym, subst, rules}
use Rattle.std.specs.Ordering.{is_lt}
use Rattle.std.proofs.lemmas.Fn.{always_returns_same}
use Rattle.std.specs.List.Sorted.{IsPartitionedBy}
use Rattle.correspondence.specs.Index.{IsFirstAt, Pair, key_cmp, key_of, words}
use Rattle.correspondence.specs.declared.entry.Entry.{Entry}
use Rattle.correspondence.proofs.Orders.{partitioned}
use Rattle.correspondence.proofs.Found.{first_from_cut}
use Rattle.correspondence.proofs.index.RowIndex.first_at.Goals as goal

pub returns : goal.returns
returns c =
    let entries = c.args.self.now.entries.items in
    let q : Pair = (c.args.front, words c.args.pins.now c.args.liberty.now c.args.udps.now) in
    let same = c.as_slice.ensures.value in
    let parted = subst (IsPartitionedBy (λ (e : Entry). is_lt (key_cmp (key_of e) q))) (sym same) (partitioned entries q c.requires) in
    let cut = c.partition_point.ensures.partitioned (λ e. is_lt (key_cmp (key_of e) q)) (always_returns_same _ _ _ (λ a r f h. search rules)) parted in
    subst (λ es. IsFirstAt es q c.partition_point.result) same (first_from_cut c.as_slice.result.now q c.partition_point.result c.partition_point.ensures.bound cut)
