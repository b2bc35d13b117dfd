use Rattle.std.proofs.Common.{◌≡◌, true, length, sym, ◌∙◌, subst, rules}
use Rattle.std.proofs.lemmas.List.{length-map}
use Rattle.gate_settle.specs.Order.{known_at_first, is_ordered}
use Rattle.gate_settle.specs.Settled.{values_after, AreSettled}
use Rattle.gate_settle.specs.Network.{Network, given_value, given_values}
use Rattle.gate_settle.proofs.Settling.{pass_settles}
use Rattle.gate_settle.proofs.Loops.{first_long}
use Rattle.gate_settle.proofs.network.GateNet.settle.Goals as goal

pub returns : goal.returns
returns c =
    let n : Network = c.args.self.now in
    let ordered : is_ordered (known_at_first (length n.given) n.gates) n.gates ≡ true = subst (λ (m : Network). is_ordered (known_at_first (length m.given) m.gates) m.gates ≡ true) c.self.view_is c.self.invariant.0 in
    let states = c.args.states.now in
    let first = given_values n.given c.args.pins.now in
    let known = known_at_first (length n.given) n.gates in
    let long : length known ≡ length first = first_long (length n.given) n.gates ∙ sym (length-map n.given (given_value c.args.pins.now)) in
    let given : c.as_slice.result.now ≡ n.given = search rules in
    let tables : c.as_slice-2.result.now ≡ n.tables = search rules in
    let gates : c.as_slice-3.result.now ≡ n.gates = search rules in
    let begun = c.begin.ensures in
    let is = c.settle.ensures in
    let same : c.settle.new.nets ≡ values_after n.tables states n.gates first = cc in
    subst (λ nets. AreSettled n.tables n.gates first states nets) (sym same) (pass_settles n.tables states known n.gates first ordered long)
