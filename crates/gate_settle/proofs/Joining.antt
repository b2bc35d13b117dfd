-- What arranged gates have in common with the gates as they were given.
use Rattle.std.proofs.Common.{◌≡◌, ℕ, ◌+◌, ◌<◌, true, List, [], ◌∷◌, length, sym, ◌∙◌, subst, arith}
use Rattle.std.specs.Prelude.{sum_by}
use Rattle.gate_settle.specs.declared.gate.Gate.{Gate}
use Rattle.gate_settle.specs.declared.gate.Given.{Given}
use Rattle.gate_settle.specs.Order.{is_ordered, known_at_first, known_after, none_ready}
use Rattle.gate_settle.specs.Reach.{AreWithin}
use Rattle.gate_settle.specs.Connecting.{HaveOneDriver, HaveNoLoop}
use Rattle.gate_settle.proofs.Loops.{same_at_first, driven_same, depends_same, ordered_no_loop, stuck_loop, apart_by_count, all_driven}

pub whole : (sorted waiting all : List Gate) → ((f : Gate → ℕ) → sum_by f sorted + sum_by f waiting ≡ sum_by f all) → length waiting ≡ 0 → (f : Gate → ℕ) → sum_by f sorted ≡ sum_by f all
whole sorted [] all h e f = let p = h f in omega (arith, p)
whole sorted (g ∷ waiting) all h e f = absurd (omega (arith, e))

pub ordered_whole : (nets : ℕ) (sorted all : List Gate) → ((f : Gate → ℕ) → sum_by f sorted ≡ sum_by f all) → is_ordered (known_at_first nets all) sorted ≡ true → is_ordered (known_at_first nets sorted) sorted ≡ true
ordered_whole nets sorted all h o = subst (λ ks. is_ordered ks sorted ≡ true) (same_at_first nets all sorted (driven_same sorted all h)) o

pub no_loop_whole : (nets : ℕ) (sorted all : List Gate) → ((f : Gate → ℕ) → sum_by f sorted ≡ sum_by f all) → is_ordered (known_at_first nets all) sorted ≡ true → HaveNoLoop all nets
no_loop_whole nets sorted all h o k lt d = ordered_no_loop (known_at_first nets all) sorted o k (depends_same all sorted (λ f. sym (h f)) k k d)

pub within_same : (nets : ℕ) (a b : List Gate) → ((f : Gate → ℕ) → sum_by f a ≡ sum_by f b) → AreWithin b nets → AreWithin a nets
within_same nets a b h w k d = w k (driven_same a b h k ∙ d)

pub no_loop_same : (nets : ℕ) (a b : List Gate) → ((f : Gate → ℕ) → sum_by f a ≡ sum_by f b) → HaveNoLoop a nets → HaveNoLoop b nets
no_loop_same nets a b h n k lt d = n k lt (depends_same b a (λ f. sym (h f)) k k d)

-- where gates wait, some net depends on itself
pub waiting_loop : (given : List Given) (all sorted waiting : List Gate) → ((f : Gate → ℕ) → sum_by f sorted + sum_by f waiting ≡ sum_by f all) → none_ready (known_after sorted true (known_at_first (length given) all)) waiting ≡ true
    → AreWithin all (length given) → HaveOneDriver given all (length given) → 0 < length waiting → HaveNoLoop all (length given) → ⊥
waiting_loop given all sorted [] h n w o e l = omega arith
waiting_loop given all sorted (g ∷ others) h n w o e l =
    let r = stuck_loop (length given) all sorted g others (record {
      parted = h;
      stuck = n;
      in_range = w;
      apart = λ k d.
          let inside : k < length given = w k (all_driven sorted (g ∷ others) all h k d) in
          let one = o k inside in
          apart_by_count sorted (g ∷ others) all k h (omega (arith, one)) d;
    }) in
    l r.0 r.1 r.2
