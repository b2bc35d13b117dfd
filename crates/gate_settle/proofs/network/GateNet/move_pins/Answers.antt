use Rattle.std.proofs.Common.{◌≡◌, true, length, sym, ◌∙◌, subst, refl, rules}
use Rattle.std.proofs.lemmas.List.{length-map}
use Rattle.gate_settle.specs.Order.{known_at_first, is_ordered}
use Rattle.gate_settle.specs.Settled.{nets_after, states_after, AreSettled, have_own_states}
use Rattle.gate_settle.specs.Network.{Network, given_value, given_values, IsMoveOf}
use Rattle.gate_settle.proofs.Settling.{pass_settles}
use Rattle.gate_settle.proofs.Moving.{move_is_pass, states_moved, states_long}
use Rattle.gate_settle.proofs.Loops.{first_long}
use Rattle.gate_settle.proofs.network.GateNet.move_pins.Goals as goal

pub returns-clause-moved : goal.returns-clause-moved
returns-clause-moved c =
    let n : Network = c.args.self.now in
    let ordered : is_ordered (known_at_first (length n.given) n.gates) n.gates ≡ true = subst (λ (m : Network). is_ordered (known_at_first (length m.given) m.gates) m.gates ≡ true) c.self.view_is c.self.invariant.0 in
    let own : have_own_states (length n.state_nets) n.gates ≡ true = subst (λ (m : Network). have_own_states (length m.state_nets) m.gates ≡ true) c.self.view_is c.self.invariant.1 in
    let old = c.args.nets.now in
    let states = c.args.states.now in
    let first = given_values n.given c.args.pins.now in
    let known = known_at_first (length n.given) n.gates in
    let count = length n.state_nets in
    let long : length known ≡ length first = first_long (length n.given) n.gates ∙ sym (length-map n.given (given_value c.args.pins.now)) in
    let given : c.as_slice.result.now ≡ n.given = search rules in
    let tables : c.as_slice-tables.result.now ≡ n.tables = search rules in
    let gates : c.as_slice-2.result.now ≡ n.gates = search rules in
    let begun = c.begin.ensures in
    let nets_are = c.advance.ensures.nets in
    let states_are = c.advance.ensures.states in
    let nets : c.advance.new.nets ≡ nets_after n.tables old n.gates first states = cc in
    let new_states : c.advance.new.states ≡ states_after n.tables old n.gates first states = cc in
    let last = states_after n.tables old n.gates first states in
    let pass = move_is_pass n.tables old count n.gates first states own in
    let move : IsMoveOf n c.args.pins.now old states (nets_after n.tables old n.gates first states) last = record {
      settled = subst (λ all. AreSettled n.tables n.gates first last all) (sym pass) (pass_settles n.tables last known n.gates first ordered long);
      states = states_moved n.tables old known count n.gates first states states ordered own (sym c.requires.states) (λ k h. refl);
      count = states_long n.tables old n.gates first states;
    } in
    subst (λ all. IsMoveOf n c.args.pins.now old states all c.advance.new.states) (sym nets) (subst (λ s. IsMoveOf n c.args.pins.now old states (nets_after n.tables old n.gates first states) s) (sym new_states) move)
