use Rattle.std.proofs.Common.{◌≡◌, ℕ, ◌<◌, arith, ap}
use Rattle.claim_table.specs.Counts.{beyond}
use Rattle.claim_table.proofs.Steps.{closes}
use Rattle.claim_table.proofs.table.ClaimTable.close.Goals as goal

pub returns : goal.returns
returns c =
    let table = c.args.self in
    let seat = c.args.seat.seat in
    let last = c.close_with.ensures.values.2 in
    let same = ap (λ (n : ℕ). beyond n seat.me.0.numbers) table.batch.0 in
    let cells = table.batch in
    let all = c.requires.all in
    λ x below. closes table.table.shared.key last.0 seat.id seat.me.0 last.1.0 last.1.1 c.requires.whole (omega arith) x (omega arith)
