-- The response of the response, where the gates keep their values.
use Rattle.std.proofs.Common.{◌≡◌, ℕ, zero, suc, ◌+◌, ◌<◌, ◌≤◌, ◌⊎◌, inl, inr, Bool, true, false, IsTrue, List, [], ◌∷◌, ◌++◌, min, length, slice_index, slice_index_or, refl, sym, ◌∙◌, ap, subst, arith}
use Rattle.std.specs.Prelude.{Contains}
use Rattle.tern_core.specs.declared.tern.Tern.{Tern}
use Rattle.tern_core.specs.declared.tern.Tern.TheVariants.{Zero, One, Unknown}
use Rattle.switch_response.specs.declared.transistor.Transistor.{Transistor}
use Rattle.switch_response.specs.Walks.{Net, Step, value_at, is_on, is_passing, IsOn, IsPassing, Leads, end_of, strength, IsWalk, IsDefinite, IsReachedAbove, IsBlocked, Arrives, AllRootsAt, Becomes, IsResponse, IsNet, IsInPartOf, HasSameGates, IsPartPath}
use Rattle.switch_response.proofs.Order.{not_both}
use Rattle.std.proofs.Math.ListN.{get_or-append}
use Rattle.std.proofs.lemmas.List.{get_or-append_right}
use native.Mathlib.Decide.{dec_lt}

-- a walk, and then another from its end
module _ (net : Net) (values : List Tern) (from : ℕ) (first : List Step) (root : ℕ) (meets : end_of from first ≡ root) where
  joined_end : (steps : List Step) → end_of from (steps ++ first) ≡ end_of root steps
  joined_end [] = meets
  joined_end (s ∷ steps) = refl

  joined_walk : IsWalk net values from first → (steps : List Step) → IsWalk net values root steps → IsWalk net values from (steps ++ first)
  joined_walk w [] v = w
  joined_walk w (s ∷ steps) v = (joined_walk w steps v.0, v.1, v.2, subst (λ n. Leads s.by n s.to) (sym (joined_end steps)) v.3, v.4)

  joined_strength : slice_index net.strengths root ≤ strength net from first → (steps : List Step) → strength net root steps ≤ strength net from (steps ++ first)
  joined_strength h [] = h
  joined_strength h (s ∷ steps) = let g : strength net root steps ≤ strength net from (steps ++ first) = joined_strength h steps in omega arith

  joined_blocked : slice_index net.strengths root ≤ strength net from first → (steps : List Step) → IsBlocked net values from (steps ++ first) → IsBlocked net values from first ⊎ IsBlocked net values root steps
  joined_blocked h [] b = inl b
  joined_blocked h (s ∷ steps) (inl b) = elim (joined_blocked h steps b) [ inl g ↦ inl g | inr g ↦ inr (inl g) ]
  joined_blocked h (s ∷ steps) (inr r) = inr (inr (record {
    root = r.root;
    steps = r.steps;
    walk = r.walk;
    definite = r.definite;
    reaches = r.reaches;
    stronger = let g : strength net root (s ∷ steps) ≤ strength net from (s ∷ steps ++ first) = joined_strength h (s ∷ steps) in omega (arith, r.stronger);
  }))

blocked_at_end : (net : Net) (values : List Tern) (root : ℕ) (steps : List Step) → IsReachedAbove net values (end_of root steps) (strength net root steps) → IsBlocked net values root steps
blocked_at_end net values root [] r = r
blocked_at_end net values root (s ∷ steps) r = inr r

blocked_at_root : (net : Net) (values : List Tern) (root : ℕ) (steps : List Step) → IsBlocked net values root [] → IsBlocked net values root steps
blocked_at_root net values root [] r = r
blocked_at_root net values root (s ∷ steps) r = inl (blocked_at_root net values root steps r)

root_of_walk : (net : Net) (values : List Tern) (root : ℕ) (steps : List Step) → IsWalk net values root steps → root < length net.strengths
root_of_walk net values root [] w = w
root_of_walk net values root (s ∷ steps) w = root_of_walk net values root steps w.0

module _ (net : Net) (values : List Tern) where
  -- an unblocked walk is no weaker than the node that it reaches
  pub arrives_strong : (node root : ℕ) (steps : List Step) → node < length net.strengths → Arrives net values node root steps → slice_index net.strengths node ≤ strength net root steps
  arrives_strong node root steps lt r = elim (dec_lt (strength net root steps) (slice_index net.strengths node)) [
    | yes h ↦ absurd (r.unblocked (blocked_at_end net values root steps (record {
      root = node;
      steps = [];
      walk = lt;
      definite = tt;
      reaches = sym r.reaches;
      stronger = h;
    })))
    | no h ↦ omega arith
  ]

  -- the root of an unblocked walk has one
  pub root_arrives : (node root : ℕ) (steps : List Step) → Arrives net values node root steps → Arrives net values root root []
  root_arrives node root steps r = record {
    walk = root_of_walk net values root steps r.walk;
    reaches = refl;
    unblocked = λ b. r.unblocked (blocked_at_root net values root steps b);
  }

  pub joined : (node root from : ℕ) (steps first : List Step) → Arrives net values root from first → Arrives net values node root steps → Arrives net values node from (steps ++ first)
  joined node root from steps first f r =
      let h : slice_index net.strengths root ≤ strength net from first = arrives_strong root from first (root_of_walk net values root steps r.walk) f in
      record {
        walk = joined_walk net values from first root f.reaches f.walk steps r.walk;
        reaches = joined_end net values from first root f.reaches steps ∙ r.reaches;
        unblocked = λ b. elim (joined_blocked net values from first root f.reaches h steps b) [ inl g ↦ f.unblocked g | inr g ↦ r.unblocked g ];
      }

-- some storage nodes, and with each of them those that a transistor joins with it
unfoldable pub IsClosed : Net → (ℕ → Type 0) → Type 0
IsClosed net part = (t : Transistor) → Contains net.transistors t → (m n : ℕ) → Leads t m n → m < net.storage → n < net.storage → part n → part m

-- each transistor at these nodes has one gate value in both
unfoldable pub SameGates : Net → (ℕ → Type 0) → List Tern → List Tern → Type 0
SameGates net part a b = (t : Transistor) → Contains net.transistors t → (m n : ℕ) → Leads t m n → n < net.storage → part n → value_at a t.gate ≡ value_at b t.gate

module _ (net : Net) (part : ℕ → Type 0) (closed : IsClosed net part) (a b : List Tern) (same : SameGates net part a b) where
  before_in_part : (root : ℕ) (s : Step) (steps : List Step) → IsWalk net a root (s ∷ steps) → (s.to < net.storage → part s.to) → (end_of root steps < net.storage → part (end_of root steps))
  unfolding IsClosed
  before_in_part root s steps w near lt = closed s.by w.1 (end_of root steps) s.to w.3 lt w.4 (near w.4)

  walk_moves : (root : ℕ) (steps : List Step) → IsWalk net a root steps → (end_of root steps < net.storage → part (end_of root steps)) → IsWalk net b root steps
  unfolding SameGates
  walk_moves root [] w near = w
  walk_moves root (s ∷ steps) w near =
      (walk_moves root steps w.0 (before_in_part root s steps w near), w.1, subst (λ v. IsTrue (is_passing s.by.channel v)) (same s.by w.1 (end_of root steps) s.to w.3 w.4 (near w.4)) w.2, w.3, w.4)

  definite_moves : (root : ℕ) (steps : List Step) → IsWalk net a root steps → (end_of root steps < net.storage → part (end_of root steps)) → IsDefinite a steps → IsDefinite b steps
  unfolding SameGates
  definite_moves root [] w near d = d
  definite_moves root (s ∷ steps) w near d =
      (definite_moves root steps w.0 (before_in_part root s steps w near) d.0, subst (λ v. IsTrue (is_on s.by.channel v)) (same s.by w.1 (end_of root steps) s.to w.3 w.4 (near w.4)) d.1)

  above_moves : (node least : ℕ) → (node < net.storage → part node) → IsReachedAbove net a node least → IsReachedAbove net b node least
  above_moves node least near r =
      let near_end = subst (λ n. n < net.storage → part n) (sym r.reaches) near in
      record {
        root = r.root;
        steps = r.steps;
        walk = walk_moves r.root r.steps r.walk near_end;
        definite = definite_moves r.root r.steps r.walk near_end r.definite;
        reaches = r.reaches;
        stronger = r.stronger;
      }

  blocked_moves : (root : ℕ) (steps : List Step) → IsWalk net a root steps → (end_of root steps < net.storage → part (end_of root steps)) → IsBlocked net a root steps → IsBlocked net b root steps
  blocked_moves root [] w near h = above_moves _ _ near h
  blocked_moves root (s ∷ steps) w near (inl h) = inl (blocked_moves root steps w.0 (before_in_part root s steps w near) h)
  blocked_moves root (s ∷ steps) w near (inr h) = inr (above_moves _ _ near h)

same_back : (net : Net) (part : ℕ → Type 0) (a b : List Tern) → SameGates net part a b → SameGates net part b a
unfolding SameGates
same_back net part a b same t h m n l lt p = sym (same t h m n l lt p)

pub arrives_moves : (net : Net) (part : ℕ → Type 0) → IsClosed net part → (a b : List Tern) → SameGates net part a b → (node root : ℕ) (steps : List Step) → (node < net.storage → part node) → Arrives net a node root steps → Arrives net b node root steps
arrives_moves net part closed a b same node root steps near r =
    let near_end = subst (λ n. n < net.storage → part n) (sym r.reaches) near in
    let w = walk_moves net part closed a b same root steps r.walk near_end in
    record {
      walk = w;
      reaches = r.reaches;
      unblocked = λ h. r.unblocked (blocked_moves net part closed b a (same_back net part a b same) root steps w near_end h);
    }

root_near : (net : Net) (part : ℕ → Type 0) → IsClosed net part → (a : List Tern) (root : ℕ) (steps : List Step) → IsWalk net a root steps → (end_of root steps < net.storage → part (end_of root steps)) → root < net.storage → part root
unfolding IsClosed
root_near net part closed a root [] w near = near
root_near net part closed a root (s ∷ steps) w near =
    root_near net part closed a root steps w.0 (λ lt. closed s.by w.1 (end_of root steps) s.to w.3 lt w.4 (near w.4))

becomes_one : (net : Net) (values : List Tern) → IsNet net → (node : ℕ) → node < net.storage → (v : Tern) → AllRootsAt net values node One → Becomes net values node v → v ≡ One
becomes_one net values ok node lt One all h = refl
becomes_one net values ok node lt Zero all h = absurd (not_both net values ok node lt all h)
becomes_one net values ok node lt Unknown all h = absurd (h.0 all)

becomes_zero : (net : Net) (values : List Tern) → IsNet net → (node : ℕ) → node < net.storage → (v : Tern) → AllRootsAt net values node Zero → Becomes net values node v → v ≡ Zero
becomes_zero net values ok node lt Zero all h = refl
becomes_zero net values ok node lt One all h = absurd (not_both net values ok node lt h all)
becomes_zero net values ok node lt Unknown all h = absurd (h.1 all)

-- b has the response of a at its storage nodes, and a's values at its input nodes
pub record Follows (net : Net) (a b : List Tern) : Type 0 where
  pub inputs : (n : ℕ) → net.storage ≤ n → value_at b n ≡ value_at a n
  pub nodes : (n : ℕ) → n < net.storage → Becomes net a n (value_at b n)

module _ (net : Net) (ok : IsNet net) (part : ℕ → Type 0) (closed : IsClosed net part) (a b : List Tern) (same : SameGates net part a b) (follows : Follows net a b) where
  -- v is One or Zero
  module _ (v : Tern) (gives : (n : ℕ) (w : Tern) → n < net.storage → AllRootsAt net a n v → Becomes net a n w → w ≡ v)
      (means : (n : ℕ) → Becomes net a n v → AllRootsAt net a n v) where
    all_later : (node : ℕ) → part node → AllRootsAt net a node v → AllRootsAt net b node v
    all_later node in_part all root steps r =
        let q = arrives_moves net part closed b a (same_back net part a b same) node root steps (λ lt. in_part) r in
        elim (dec_lt root net.storage) [
          | yes lt ↦ gives root _ lt (λ from first f. all from (steps ++ first) (joined net a node root from steps first f q)) (follows.nodes root lt)
          | no ge ↦ follows.inputs root (omega arith) ∙ all root steps q
        ]

    all_before : (node : ℕ) → part node → AllRootsAt net b node v → AllRootsAt net a node v
    all_before node in_part all root steps r =
        let q = all root steps (arrives_moves net part closed a b same node root steps (λ lt. in_part) r) in
        elim (dec_lt root net.storage) [
          | yes lt ↦ means root (subst (λ w. Becomes net a root w) q (follows.nodes root lt)) root [] (root_arrives net a node root steps r)
          | no ge ↦ sym (follows.inputs root (omega arith)) ∙ q
        ]

  same_becomes : (node : ℕ) → node < net.storage → part node → (x y : Tern) → Becomes net a node x → Becomes net b node y → y ≡ x
  same_becomes node lt in_part One y h g = becomes_one net b ok node lt y (all_later One (λ n w less. becomes_one net a ok n less w) (λ n t. t) node in_part h) g
  same_becomes node lt in_part Zero y h g = becomes_zero net b ok node lt y (all_later Zero (λ n w less. becomes_zero net a ok n less w) (λ n t. t) node in_part h) g
  same_becomes node lt in_part Unknown Unknown h g = refl
  same_becomes node lt in_part Unknown One h g = absurd (h.0 (all_before One (λ n w less. becomes_one net a ok n less w) (λ n t. t) node in_part g))
  same_becomes node lt in_part Unknown Zero h g = absurd (h.1 (all_before Zero (λ n w less. becomes_zero net a ok n less w) (λ n t. t) node in_part g))

  -- where the gates of a part have equal values in a state and its response, the response of the response equals the response on that part
  pub idempotent_part : (z : List Tern) → IsResponse net b z → (node : ℕ) → node < net.storage → part node → value_at z node ≡ value_at b node
  idempotent_part z r node lt in_part = same_becomes node lt in_part _ _ (follows.nodes node lt) (r.each node lt)

pub leads_back : (t : Transistor) (a b : ℕ) → Leads t a b → Leads t b a
leads_back t a b (inl h) = inr (h.1, h.0)
leads_back t a b (inr h) = inl (h.1, h.0)

part_closed : (n : Net) (node : ℕ) → IsClosed n (IsInPartOf n node)
unfolding IsClosed
part_closed n node t within m k leads lt lt2 path =
    (record { by = t; to = m } ∷ path.0, (path.1, within, subst (λ j. Leads t j m) (sym path.2) (leads_back t m k leads), lt), refl)

-- where the gates of a part have equal values in a state and its response, the response of the response equals the response on that part
pub idempotent : (n : Net) (pins state next after : List Tern) (node : ℕ) → IsNet n → length state ≡ n.storage → node < n.storage
    → IsResponse n (state ++ pins) next → IsResponse n (next ++ pins) after → HasSameGates n node (state ++ pins) (next ++ pins) → value_at after node ≡ value_at next node
idempotent n pins state next after node ok count lt r t same =
    let same' : SameGates n (IsInPartOf n node) (state ++ pins) (next ++ pins) = unfold SameGates in (λ u within m k leads lt path. same u m k within path leads) in
    let front : (k : ℕ) → k < n.storage → value_at (next ++ pins) k ≡ value_at next k = λ k lt. get_or-append next pins Unknown k (omega (arith, r.count)) in
    idempotent_part n ok (IsInPartOf n node) (part_closed n node) (state ++ pins) (next ++ pins) same'
    (record {
      inputs = λ k le. get_or-append_right next pins n.storage k Unknown r.count le ∙ sym (get_or-append_right state pins n.storage k Unknown count le);
      nodes = λ k lt. subst (Becomes n (state ++ pins) k) (sym (front k lt)) (r.each k lt);
    })
    after t node lt ([], lt, refl) ∙ front node lt
