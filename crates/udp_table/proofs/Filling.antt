-- The places are filled from the least subset on, and the last one tells of all inputs.
use Rattle.std.proofs.Common.{◌≡◌, ℕ, ◌+◌, ◌-◌, ◌*◌, ◌%◌, ◌^◌, ◌<◌, ◌≤◌, List, length, get_or, set, ap, sym, ◌∙◌, subst, ⊎_elim, arith}
use Rattle.std.proofs.Math.Pow.{pow_mono, pow_pos}
use Rattle.std.proofs.lemmas.Bool.{cases_lt}
use Rattle.std.proofs.lemmas.List.{get_or-set_same, get_or-set_other, get_or_default}
use Rattle.tern_core.specs.declared.tern.Tern.{Tern}
use Rattle.udp_table.specs.declared.states.States.{States}
use Rattle.udp_table.specs.declared.row.Row.{Row}
use Rattle.udp_table.specs.Orders.{changed_inputs, change_of}
use Rattle.udp_table.specs.Subsets.{none, only, members, levels_after, gathered, common_state}
use Rattle.udp_table.specs.Reached.{times, AreEnds, AreEndsBelow}
use Rattle.udp_table.proofs.Levels.{shifted}
use Rattle.udp_table.proofs.Subsets.{members-full}
use Rattle.udp_table.proofs.Reaching.{gathered-ends, start-ends}
use Rattle.udp_table.proofs.Commons.{common-ends}

-- the number of subsets, as the code computes it
pub places_of : (k : ℕ) → k ≤ 10 → (1 * 2 ^ k % 18446744073709551616 ≡ 2 ^ k) × (2 ^ k ≤ 1024) × (0 < 2 ^ k)
places_of k h = (shifted k (omega arith), pow_mono h, pow_pos k)

pub filled_start : (rows : List Row) (old new : List Tern) (state : Tern) (changed : List ℕ) (places : List States) → 0 < length places → AreEndsBelow rows old new state changed (set places 0 (only state)) 1
filled_start rows old new state changed places some lower below =
    let first : 0 ≡ lower = omega arith in
    subst (λ n. AreEnds rows old new state (members changed n) (get_or (set places 0 (only state)) n none)) first
    (subst (AreEnds rows old new state (members changed 0)) (sym (get_or-set_same places 0 (only state) none some)) (start-ends rows old new state changed))

pub filled_more : (rows : List Row) (old new : List Tern) (state : Tern) (changed : List ℕ) (inputs : (w : ℕ) → 0 < times w changed → w < length old) (once : (w : ℕ) → times w changed ≤ 1) (places : List States) (subset : ℕ) (s : States) → 0 < subset → subset < 2 ^ length changed → subset < length places → s ≡ gathered rows old (levels_after (members changed subset) new old) places subset changed subset 1 none → AreEndsBelow rows old new state changed places subset → AreEndsBelow rows old new state changed (set places subset s) (subset + 1)
filled_more rows old new state changed inputs once places subset s some small room is below lower bound =
    ⊎_elim
    (λ lt. subst (AreEnds rows old new state (members changed lower)) (sym (get_or-set_other places subset lower s none (λ e. omega arith))) (below lower lt))
    (λ ge.
    let same : subset ≡ lower = omega arith in
    subst (λ n. AreEnds rows old new state (members changed n) (get_or (set places subset s) n none)) same
    (subst (AreEnds rows old new state (members changed subset)) (sym (get_or-set_same places subset s none room ∙ is))
    (gathered-ends rows old new state changed inputs once places subset some small below))) (cases_lt lower subset)

pub whole_ends : (rows : List Row) (old new : List Tern) (state : Tern) (changed : List ℕ) (count : ℕ) (places : List States) (d : States) → changed ≡ changed_inputs old new → length changed ≡ count → count ≤ 10 → length places ≡ 1024 → AreEndsBelow rows old new state changed places (2 ^ length changed) → common_state (get_or places (1 * 2 ^ count % 18446744073709551616 - 1) d) ≡ change_of rows old new state
whole_ends rows old new state changed count places d is long few room below =
    let number = places_of count few in
    let last : 2 ^ count - 1 < length places = omega (arith, number.1, number.2) in
    let full : 2 ^ length changed - 1 < 2 ^ length changed = omega (arith, pow_pos (length changed)) in
    let ends : AreEnds rows old new state (changed_inputs old new) (get_or places (2 ^ count - 1) none) = subst (λ n. AreEnds rows old new state (changed_inputs old new) (get_or places (2 ^ n - 1) none)) long (subst (λ xs. AreEnds rows old new state xs (get_or places (2 ^ length changed - 1) none)) (members-full changed ∙ is) (below (2 ^ length changed - 1) full)) in
    ap (λ n. common_state (get_or places (n - 1) d)) number.0 ∙ ap common_state (get_or_default places (2 ^ count - 1) d none last) ∙ common-ends rows old new state (get_or places (2 ^ count - 1) none) ends
