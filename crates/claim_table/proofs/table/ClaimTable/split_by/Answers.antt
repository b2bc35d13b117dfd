use Rattle.std.proofs.Common.{◌≡◌, ℕ, ◌+◌, ◌≤◌, arith, ap, sym, subst, ◌∙◌}
use Rattle.claim_table.specs.Counts.{beyond}
use Rattle.claim_table.specs.declared.rule.ClaimView.{ClaimView}
use Rattle.claim_table.specs.Rule.{Keeps, kept_part, new_part}
use Rattle.atomic_table.specs.Table.{Splits}
use Rattle.claim_table.proofs.Steps.{splits}
use Rattle.claim_table.proofs.table.ClaimTable.split_by.Goals as goal

pub split_seat-new-requires : goal.split_seat-new-requires
split_seat-new-requires g c =
    let table = c.args.self.now in
    let seat = c.args.seat.now.seat in
    let key = table.table.shared.key in
    let same = ap (λ (n : ℕ). beyond n seat.me.0.numbers) table.batch.0 in
    let word = table.one_word in
    let room = c.requires.room in
    let left = ap (λ (f : ClaimView → ClaimView). f seat.me.0) (sym c.requires.parts.0) in
    let right = ap (λ (f : ClaimView → ClaimView). f seat.me.0) (sym c.requires.parts.1) in (
      c.requires.own,
      (omega arith),
      subst (λ (z : ClaimView). Splits (Keeps key) seat.id seat.me.0 (g.M.Split.left seat.me.0) z) right
          (subst (λ (z : ClaimView). Splits (Keeps key) seat.id seat.me.0 z (new_part c.args.budget)) left
          (splits key seat.id seat.me.0 c.args.budget (omega arith) c.requires.rest)),
    )
