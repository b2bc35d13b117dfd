use Rattle.std.proofs.Common.{arith}
use Rattle.claim_table.proofs.Steps.{joins}
use Rattle.claim_table.proofs.table.ClaimTable.join.Goals as goal

pub join_seat-requires : goal.join_seat-requires
join_seat-requires c =
    let table = c.args.self.now in
    let word = table.one_word in
    let seat = c.args.seat.now.seat in
    let theirs = c.args.other.seat in
    (c.requires.0, c.requires.1, c.args.other.no_slot, (omega arith), joins table.table.shared.key seat.id seat.me.0 theirs.id theirs.me.0)
