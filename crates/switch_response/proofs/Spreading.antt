-- Steps of a spread keep it sound, and where none is left it is the strongest.
use Rattle.std.proofs.Common.{◌≡◌, ℕ, ◌+◌, ◌-◌, ◌<◌, ◌≤◌, ◌≢◌, ◌⊎◌, inl, inr, List, [], ◌∷◌, min, length, slice_index, slice_set, refl, sym, ◌∙◌, ap, subst, arith}
use Rattle.std.specs.Prelude.{sum_by}
use Rattle.std.proofs.lemmas.List.{get_or-set_same, get_or-set_other}
use Rattle.std.proofs.Math.ListN.{length-set}
use Rattle.std.proofs.lemmas.List.Sums.{sum_by-set}
use Rattle.switch_response.specs.declared.transistor.Transistor.{Transistor}
use Rattle.switch_response.specs.Walks.{Step, end_of}
use Rattle.switch_response.specs.Spread.{Ground, Crosses, carried, IsAdmitted, IsReachedWith, IsSound, IsSpread, Improves, Steps, still, then, IsIdle, room}
use native.Mathlib.Decide.{dec_lt}

seeds_sound : (g : Ground) (seeds : List ℕ) → IsSound g seeds seeds
seeds_sound g seeds node h = record { root = node; steps = []; admitted = h; reaches = refl; carries = refl }

-- at each node but the changed one
pub at_node : (xs : List ℕ) (i v j : ℕ) → i < length xs → ((j ≡ i) × (slice_index (slice_set xs i v) j ≡ v)) ⊎ ((j ≢ i) × (slice_index (slice_set xs i v) j ≡ slice_index xs j))
at_node xs i v j lt = elim (dec_lt j i) [
  | yes h ↦ let ne : j ≢ i = omega arith in inr (ne, get_or-set_other xs i j v 0 ne)
  | no h ↦ elim (dec_lt i j) [
    | yes k ↦ let ne : j ≢ i = omega arith in inr (ne, get_or-set_other xs i j v 0 ne)
    | no k ↦ let e : j ≡ i = omega arith in inl (e, rw e (get_or-set_same xs i v 0 lt))
  ]
]

improve_sound : (g : Ground) (seeds old new : List ℕ) → Improves g old new → IsSound g seeds old → IsSound g seeds new
improve_sound g seeds old new h sound node pos =
    elim (at_node old h.to (min (slice_index old h.start) h.by.strength) node h.within) [
      | inl e ↦
          let r = sound h.start (omega (arith, h.greater)) in
          let c : min (carried seeds r.root r.steps) h.by.strength ≡ min (slice_index old h.start) h.by.strength = ap (λ n. min n h.by.strength) r.carries in
          let f : slice_index g.floor h.to ≤ min (carried seeds r.root r.steps) h.by.strength = rw c h.floor in
          record {
            root = r.root;
            steps = (record { by = h.by; to = h.to }) ∷ r.steps;
            admitted = (r.admitted, subst (λ n. Crosses g h.by n h.to) (sym r.reaches) h.crosses, f);
            reaches = sym e.0;
            carries = c ∙ sym (ap (λ xs. slice_index xs node) h.is ∙ e.1);
          }
      | inr e ↦
          let same : slice_index new node ≡ slice_index old node = ap (λ xs. slice_index xs node) h.is ∙ e.1 in
          subst (IsReachedWith g seeds node) (sym same) (sound node (subst (λ n. 0 < n) same pos))
    ]

pub steps_sound : (g : Ground) (seeds a b : List ℕ) → Steps g a b → IsSound g seeds a → IsSound g seeds b
steps_sound g seeds a b still h = h
steps_sound g seeds a c (then {b = b} s i) h = improve_sound g seeds b c i (steps_sound g seeds a b s h)

improve_grows : (g : Ground) (old new : List ℕ) → Improves g old new → (node : ℕ) → slice_index old node ≤ slice_index new node
improve_grows g old new h node =
    elim (at_node old h.to (min (slice_index old h.start) h.by.strength) node h.within) [
      | inl e ↦
          let same : slice_index new node ≡ min (slice_index old h.start) h.by.strength = ap (λ xs. slice_index xs node) h.is ∙ e.1 in
          let at : slice_index old node ≡ slice_index old h.to = ap (λ n. slice_index old n) e.0 in
          omega (arith, h.greater)
      | inr e ↦
          let same : slice_index new node ≡ slice_index old node = ap (λ xs. slice_index xs node) h.is ∙ e.1 in
          omega arith
    ]

pub steps_grow : (g : Ground) (a b : List ℕ) → Steps g a b → (node : ℕ) → slice_index a node ≤ slice_index b node
steps_grow g a b still node = omega arith
steps_grow g a c (then {b = b} s i) node =
    let h : slice_index a node ≤ slice_index b node = steps_grow g a b s node in
    let k : slice_index b node ≤ slice_index c node = improve_grows g b c i node in
    omega arith

improve_length : (g : Ground) (old new : List ℕ) → Improves g old new → length new ≡ length old
improve_length g old new h = ap length h.is ∙ length-set _ _ _

pub steps_length : (g : Ground) (a b : List ℕ) → Steps g a b → length b ≡ length a
steps_length g a b still = refl
steps_length g a c (then {b = b} s i) = improve_length g b c i ∙ steps_length g a b s

pub improve_room : (g : Ground) (old new : List ℕ) → Improves g old new → room new < room old
unfolding room
improve_room g old new h =
    let v : ℕ = min (slice_index old h.start) h.by.strength in
    let e : room new ≡ sum_by (λ b. 8 - b) (slice_set old h.to v) = ap (λ xs. sum_by (λ b. 8 - b) xs) h.is in
    let k : sum_by (λ b. 8 - b) (slice_set old h.to v) + (8 - slice_index old h.to) ≡ sum_by (λ b. 8 - b) old + (8 - v) = sum_by-set (λ b. 8 - b) old h.to v 0 h.within in
    omega (arith, h.greater, h.fits)

pub steps_room : (g : Ground) (a b : List ℕ) → Steps g a b → room b ≤ room a
steps_room g a b still = omega arith
steps_room g a c (then {b = b} s i) =
    let h : room b ≤ room a = steps_room g a b s in
    let k : room c < room b = improve_room g b c i in
    omega arith

pub steps_join : (g : Ground) (a b c : List ℕ) → Steps g a b → Steps g b c → Steps g a c
steps_join g a b c s still = s
steps_join g a b d s (then {b = c} t i) = then (steps_join g a b c s t) i

pub most_of_idle : (g : Ground) (seeds best : List ℕ) → ((node : ℕ) → slice_index seeds node ≤ slice_index best node) → ((t : Transistor) (a b : ℕ) → IsIdle g best t a b)
    → (root : ℕ) (steps : List Step) → IsAdmitted g seeds root steps → carried seeds root steps ≤ slice_index best (end_of root steps)
most_of_idle g seeds best from idle root [] w = from root
most_of_idle g seeds best from idle root (s ∷ steps) w =
    let h : carried seeds root steps ≤ slice_index best (end_of root steps) = most_of_idle g seeds best from idle root steps w.0 in
    let i : min (slice_index best (end_of root steps)) s.by.strength ≤ slice_index best s.to = idle s.by (end_of root steps) s.to w.1 (omega (arith, w.2)) in
    omega arith

-- what is reached from the seeds, and improves no more, is the strongest
pub spread_of : (g : Ground) (seeds best : List ℕ) → Steps g seeds best → ((t : Transistor) (a b : ℕ) → IsIdle g best t a b) → IsSpread g seeds best
spread_of g seeds best s idle = record {
  count = steps_length g seeds best s;
  sound = steps_sound g seeds seeds best s (seeds_sound g seeds);
  most = most_of_idle g seeds best (steps_grow g seeds best s) idle;
}
