use Rattle.std.proofs.Common.{◌≡◌, [], map, length}
use Rattle.std.specs.Prelude.{All}
use Rattle.switch_response.proofs.wiring.no_arcs.Given as goal

abbrev pub invariant-loop-node : goal.invariant-loop-node
invariant-loop-node l = record {
  count : length l.arcs.items ≡ l.node;
  none : All (λ row. row ≡ []) (map (λ v. v.items) l.arcs.items);
}
