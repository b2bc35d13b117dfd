use Rattle.std.proofs.Common.{◌++◌, ◌∙◌, ap}
use Rattle.gate_settle.specs.Gates.{is_among}
use Rattle.gate_settle.proofs.Search.{among_append, or_swap}
use Rattle.gate_settle.proofs.reach.gathered.Goals as goal
use Rattle.gate_settle.proofs.reach.gathered.Goals.{then-len, else-len}

pub returns-clause-among : goal.returns-clause-among
returns-clause-among c k = elim c.if-len.branch [
  | then-len w ↦
      ap (λ xs. is_among xs k) (c.in_ok-append.ensures.items ∙ ap (λ p. p.0.items ++ p.1.items) w.more-is) ∙ among_append c.args.second.items c.args.first.items k
      ∙ or_swap (is_among c.args.second.items k) (is_among c.args.first.items k)
  | else-len w ↦ ap (λ xs. is_among xs k) (c.in_ok-append.ensures.items ∙ ap (λ p. p.0.items ++ p.1.items) w.more-is) ∙ among_append c.args.first.items c.args.second.items k
]
