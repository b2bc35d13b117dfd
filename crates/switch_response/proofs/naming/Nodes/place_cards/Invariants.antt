use Rattle.std.proofs.Common.{◌≡◌, ℕ, List, length, take}
use Rattle.std.specs.Str.{bytes_eq}
use Rattle.switch_response.specs.Wiring.{card_names}
use Rattle.switch_response.specs.Places.{Indexes, Grows, AreAllEnds}
use Rattle.switch_response.proofs.naming.Nodes.place_cards.Given as goal

abbrev pub invariant-loop-card : goal.invariant-loop-card
invariant-loop-card l = record {
  index : Indexes bytes_eq l.self.names.items l.self.index;
  names : (before : List (List ℕ)) → Indexes bytes_eq before l.inputs → Grows before l.fn.self.names.items (card_names (take l.card-index l.cards)) l.self.names.items;
  ends : (before : List (List ℕ)) → Indexes bytes_eq before l.inputs → AreAllEnds l.self.names.items before l.cards l.ends.items;
  count : length l.ends.items ≡ l.card-index;
}
