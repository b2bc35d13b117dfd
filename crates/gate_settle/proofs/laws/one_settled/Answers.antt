use Rattle.std.proofs.Common.{◌≡◌, true, length, sym, ◌∙◌, subst}
use Rattle.std.proofs.lemmas.List.{length-map}
use Rattle.gate_settle.specs.Order.{known_at_first, is_ordered}
use Rattle.gate_settle.specs.Settled.{values_after}
use Rattle.gate_settle.specs.Network.{Network, given_value, given_values}
use Rattle.gate_settle.proofs.Settling.{pass_settles, settled_one}
use Rattle.gate_settle.proofs.Loops.{first_long}
use Rattle.gate_settle.proofs.laws.one_settled.Goals as goal

pub returns : goal.returns
returns c pins states =
    let n : Network = c.args.net.now in
    let ordered : is_ordered (known_at_first (length n.given) n.gates) n.gates ≡ true = subst (λ (m : Network). is_ordered (known_at_first (length m.given) m.gates) m.gates ≡ true) c.net.view_is c.net.invariant.0 in
    let first = given_values n.given pins in
    let known = known_at_first (length n.given) n.gates in
    let long : length known ≡ length first = first_long (length n.given) n.gates ∙ sym (length-map n.given (given_value pins)) in
    (values_after n.tables states n.gates first, pass_settles n.tables states known n.gates first ordered long, λ others h. settled_one n.tables states known n.gates first others ordered long h)
