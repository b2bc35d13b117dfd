use Rattle.std.proofs.Common.{◌≡◌, true, length, sym, ◌∙◌, subst}
use Rattle.std.proofs.lemmas.List.{length-map}
use Rattle.gate_settle.specs.Order.{known_at_first, is_ordered}
use Rattle.gate_settle.specs.Network.{Network, given_value, given_values}
use Rattle.gate_settle.proofs.Monotony.{givens_up, settled_up}
use Rattle.gate_settle.proofs.laws.settling_keeps_what_is_known.Goals as goal

pub returns : goal.returns
returns c monotone pins more_pins states more_states nets more_nets p s a b =
    let n : Network = c.args.net.now in
    let ordered : is_ordered (known_at_first (length n.given) n.gates) n.gates ≡ true = subst (λ (m : Network). is_ordered (known_at_first (length m.given) m.gates) m.gates ≡ true) c.net.view_is c.net.invariant.0 in
    let long : length nets ≡ length more_nets = a.count ∙ length-map n.given (given_value pins) ∙ sym (length-map n.given (given_value more_pins)) ∙ sym b.count in
    settled_up n.tables states more_states nets more_nets monotone s (known_at_first (length n.given) n.gates) n.gates (given_values n.given pins) (given_values n.given more_pins) ordered (givens_up pins more_pins n.given p) a.free b.free a.driven b.driven long
