-- A state that equals its response stays.
use Rattle.std.proofs.Common.{◌≡◌, ℕ, zero, suc, ◌+◌, ◌-◌, ◌≤◌, List, subst, arith}
use Rattle.tern_core.specs.declared.tern.Tern.{Tern}
use Rattle.switch_response.specs.Walks.{IsResponse}
use Rattle.switch_response.specs.Network.{Network, all_values}
use Rattle.switch_run.specs.Waits.{Waits, none, more}

stays : (w : Network) (pins old last : List Tern) (k rest : ℕ) → Waits w pins k old last → IsResponse w.net (all_values w last pins) last → Waits w pins (rest + k) old last
stays w pins old last k zero h r = let e : k ≡ 0 + k = omega arith in subst (λ j. Waits w pins j old last) e h
stays w pins old last k (suc m) h r = let e : suc (m + k) ≡ suc m + k = omega arith in subst (λ j. Waits w pins j old last) e (more (stays w pins old last k m h r) r)

pub stays_until : (w : Network) (pins old last : List Tern) (k j : ℕ) → k ≤ j → Waits w pins k old last → IsResponse w.net (all_values w last pins) last → Waits w pins j old last
stays_until w pins old last k j le h r = let e : (j - k) + k ≡ j = omega arith in subst (λ i. Waits w pins i old last) e (stays w pins old last k (j - k) h r)
