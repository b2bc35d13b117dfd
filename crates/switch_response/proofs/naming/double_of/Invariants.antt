use Rattle.std.proofs.Common.{◌≡◌, ◌<◌, ℕ, List, map, length, drop, None}
use Rattle.std.specs.Prelude.{MatchOption, is_some, slice_get}
use Rattle.std.specs.List.{list_any}
use Rattle.std.specs.Str.{bytes_eq}
use Rattle.switch_response.specs.NameIndex.{found}
use Rattle.switch_response.specs.Wiring.{first_double}
use Rattle.switch_response.proofs.naming.double_of.Given as goal

abbrev pub invariant-loop-place : goal.invariant-loop-place
invariant-loop-place l = record {
  seen : (q : List ℕ) → is_some (found l.seen q) ≡ list_any (bytes_eq q) (drop l.place (map (λ p. p.0) l.pins));
  double : MatchOption l.double (first_double (drop l.place (map (λ p. p.0) l.pins)) ≡ None) (λ k. (k < length l.pins) × (first_double (drop l.place (map (λ p. p.0) l.pins)) ≡ slice_get (map (λ p. p.0) l.pins) k));
}
