use Rattle.std.proofs.Common.{ℕ, List, map, take}
use Rattle.std.specs.Str.{bytes_eq}
use Rattle.switch_response.specs.Places.{Indexes, Grows}
use Rattle.switch_response.proofs.naming.Nodes.place_pins.Given as goal

abbrev pub invariant-loop-pin : goal.invariant-loop-pin
invariant-loop-pin l = record {
  index : Indexes bytes_eq l.self.names.items l.self.index;
  names : (before : List (List ℕ)) → Indexes bytes_eq before l.inputs → Grows before l.fn.self.names.items (map (λ p. p.0) (take l.pin-index l.pins)) l.self.names.items;
}
