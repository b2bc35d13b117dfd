use Rattle.std.proofs.Common.{[], ◌∷◌, sym, ◌∙◌, ap}
use Rattle.std.specs.Prelude.{◌||◌}
use Rattle.gate_settle.specs.Gates.{is_among}
use Rattle.gate_settle.specs.Order.{is_input}
use Rattle.gate_settle.proofs.Search.{among_append}
use Rattle.gate_settle.proofs.feeders.add_input.Goals as goal

pub returns-in_ok-push : goal.returns-in_ok-push
returns-in_ok-push c b =
    ap (λ xs. is_among xs b) c.in_ok-push.ensures.items ∙ among_append c.args.row.now.items (c.in-Net.net ∷ []) b
    ∙ ap (λ x. is_among c.args.row.now.items b || is_input (x ∷ []) b) (sym c.in-Net.is)
