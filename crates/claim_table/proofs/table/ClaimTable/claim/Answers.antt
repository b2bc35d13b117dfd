use Rattle.std.proofs.Common.{◌≡◌, ℕ, ◌<◌, arith, ap}
use Rattle.claim_table.specs.Counts.{beyond}
use Rattle.claim_table.proofs.Steps.{claims}
use Rattle.claim_table.proofs.table.ClaimTable.claim.Goals as goal

pub fetch_add-found-requires : goal.fetch_add-found-requires
fetch_add-found-requires c =
    let table = c.args.self.now in
    let seat = c.args.seat.now.seat in
    let same = ap (λ (n : ℕ). beyond n seat.me.0.numbers) table.batch.0 in
    let small = table.batch in
    let word = table.one_word in
    let room = c.requires.room in
    (c.requires.own, (omega arith), claims table.table.shared.key table.table.shared.table_id.slots seat.id seat.me (omega arith) (omega arith) (omega arith))
