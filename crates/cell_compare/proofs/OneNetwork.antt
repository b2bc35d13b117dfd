-- A module makes one network, or is refused for one reason.
use Rattle.std.proofs.Common.{◌≡◌, ℕ, List, Some, None, refl, sym, ◌∙◌, ap, subst, arith}
use Rattle.std.specs.List.{slice_get}
use Rattle.tern_core.specs.declared.tern.Tern.{Tern}
use Rattle.verilog_source.specs.declared.module.Module.{Module}
use Rattle.udp_table.specs.Table.{Table}
use Rattle.gate_settle.specs.declared.connecting.ConnectRefusal.TheVariants as numbered
use Rattle.gate_settle.specs.Connecting.{IsNotConnected}
use Rattle.gate_settle.specs.Network.{IsSettled, HasOneSettled}
use Rattle.module_net.specs.declared.refusal.GateRefusal.{GateRefusal}
use Rattle.module_net.specs.declared.refusal.GateRefusal.TheVariants as gates
use Rattle.module_net.specs.Naming.{nets_of}
use Rattle.module_net.specs.Elements.{first_refused}
use Rattle.module_net.specs.Building.{NamedNetwork, IsNetOf, IsRefused, givens_of, gates_of}
use Rattle.module_net.proofs.Agreeing.{settled_agrees, one_agrees}
use Rattle.verdict_text.specs.declared.reason.Reason.{Reason}
use Rattle.cell_compare.specs.Reasons.{IsGateReason}
use Rattle.cell_compare.proofs.Cuts.{none_some, same_some, same_place}

told_once : (e : GateRefusal) (r s : Reason) → IsGateReason e r → IsGateReason e s → r ≡ s
told_once gates.NoMemory r s h k = absurd h
told_once (gates.Loop net) r s h k = h ∙ sym k
told_once (gates.TwoDrivers net) r s h k = h ∙ sym k
told_once (gates.UnknownUdp name) r s h k = h ∙ sym k
told_once (gates.PortCount label) r s h k = h ∙ sym k

module _ (m : Module) (tables : List Table) (inputs : List (List ℕ)) (supplies : List (List ℕ × Tern)) where
  -- why the elements make no network
  data Cause (e : GateRefusal) : Type 0 where
    element : first_refused tables m.elements ≡ Some e → Cause e
    twice : first_refused tables m.elements ≡ None → (name : List ℕ) (k : ℕ) → slice_get (nets_of m) k ≡ Some name → IsNotConnected (givens_of m inputs supplies) (gates_of m tables) (numbered.TwoDrivers k) → e ≡ gates.TwoDrivers name → Cause e
    loop : first_refused tables m.elements ≡ None → (name : List ℕ) (k : ℕ) → slice_get (nets_of m) k ≡ Some name → IsNotConnected (givens_of m inputs supplies) (gates_of m tables) (numbered.Loop k) → e ≡ gates.Loop name → Cause e

  cause_of : (e : GateRefusal) (r : Reason) → IsRefused m tables inputs supplies e → IsGateReason e r → Cause e
  cause_of gates.NoMemory r h told = absurd told
  cause_of (gates.UnknownUdp name) r h told = element h
  cause_of (gates.PortCount label) r h told = element h
  cause_of (gates.TwoDrivers name) r h told = twice h.0 name h.1.0 h.1.1 h.1.2 refl
  cause_of (gates.Loop name) r h told = loop h.0 name h.1.0 h.1.1 h.1.2 refl

  two_twice : (k j : ℕ) → IsNotConnected (givens_of m inputs supplies) (gates_of m tables) (numbered.TwoDrivers k) → IsNotConnected (givens_of m inputs supplies) (gates_of m tables) (numbered.TwoDrivers j) → k ≡ j
  two_twice k j a b = same_place k j
      (λ less. let one = b.2 k less in let two = a.1 in omega arith)
      (λ less. let one = a.2 j less in let two = b.1 in omega arith)

  two_loops : (k j : ℕ) → IsNotConnected (givens_of m inputs supplies) (gates_of m tables) (numbered.Loop k) → IsNotConnected (givens_of m inputs supplies) (gates_of m tables) (numbered.Loop j) → k ≡ j
  two_loops k j a b = same_place k j (λ less. b.3 k less a.2) (λ less. a.3 j less b.2)

  twice_or_loop : (k j : ℕ) → IsNotConnected (givens_of m inputs supplies) (gates_of m tables) (numbered.TwoDrivers k) → IsNotConnected (givens_of m inputs supplies) (gates_of m tables) (numbered.Loop j) → ⊥
  twice_or_loop k j a b = let one = b.0 k a.0 in let two = a.1 in omega arith

  same_name : (k j : ℕ) (n o : List ℕ) → slice_get (nets_of m) k ≡ Some n → slice_get (nets_of m) j ≡ Some o → k ≡ j → n ≡ o
  same_name k j n o h g e = same_some (slice_get (nets_of m) j) n o (ap (slice_get (nets_of m)) (sym e) ∙ h) g

  refusal_once : (e f : GateRefusal) → Cause e → Cause f → e ≡ f
  refusal_once e f (element h) (element g) = same_some _ e f h g
  refusal_once e f (element h) (twice g n k s b d) = absurd (none_some _ e g h)
  refusal_once e f (element h) (loop g n k s b d) = absurd (none_some _ e g h)
  refusal_once e f (twice h n k s a d) (element g) = absurd (none_some _ f h g)
  refusal_once e f (twice h n k s a d) (twice g o j t b c) = d ∙ ap (λ z. gates.TwoDrivers z) (same_name k j n o s t (two_twice k j a b)) ∙ sym c
  refusal_once e f (twice h n k s a d) (loop g o j t b c) = absurd (twice_or_loop k j a b)
  refusal_once e f (loop h n k s a d) (element g) = absurd (none_some _ f h g)
  refusal_once e f (loop h n k s a d) (twice g o j t b c) = absurd (twice_or_loop j k b a)
  refusal_once e f (loop h n k s a d) (loop g o j t b c) = d ∙ ap (λ z. gates.Loop z) (same_name k j n o s t (two_loops k j a b)) ∙ sym c

  pub one_gate_reason : (e f : GateRefusal) (r s : Reason) → IsRefused m tables inputs supplies e → IsRefused m tables inputs supplies f → IsGateReason e r → IsGateReason f s → r ≡ s
  one_gate_reason e f r s h k a b = told_once f r s (subst (λ z. IsGateReason z r) (refusal_once e f (cause_of e r h a) (cause_of f s k b)) a) b

  connected_not : (e : GateRefusal) (net : NamedNetwork) → IsNetOf m tables inputs supplies net → Cause e → ⊥
  connected_not e net is (element h) = none_some _ e is.elements h
  connected_not e net is (twice h n k s a d) = let one = is.connected.one_driver k a.0 in let two = a.1 in omega arith
  connected_not e net is (loop h n k s a d) = is.connected.no_loop k a.1 a.2

  -- what makes a network is not refused
  pub net_or_reason : (e : GateRefusal) (r : Reason) (net : NamedNetwork) → IsNetOf m tables inputs supplies net → IsRefused m tables inputs supplies e → IsGateReason e r → ⊥
  net_or_reason e r net is h told = connected_not e net is (cause_of e r h told)

  -- two networks of a module settle alike
  pub settle_alike : (net other : NamedNetwork) → IsNetOf m tables inputs supplies net → IsNetOf m tables inputs supplies other → HasOneSettled net.network
      → (pins states nets others : List Tern) → IsSettled net.network pins states nets → IsSettled other.network pins states others → nets ≡ others
  settle_alike net other is too one pins states nets others h k =
      let only = one_agrees m tables inputs supplies net is one pins states in
      only.2 nets ((settled_agrees m tables inputs supplies net is pins states nets).0 h)
      ∙ sym (only.2 others ((settled_agrees m tables inputs supplies other too pins states others).0 k))
