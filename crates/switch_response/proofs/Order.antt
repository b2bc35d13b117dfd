-- Laws of the response, from its definition alone.
use Rattle.std.proofs.Common.{◌≡◌, ℕ, zero, suc, ◌+◌, ◌<◌, ◌≤◌, inl, inr, true, false, IsTrue, List, [], ◌∷◌, ◌++◌, length, slice_index, refl, sym, ◌∙◌, subst, arith}
use Rattle.tern_core.specs.declared.tern.Tern.{Tern}
use Rattle.tern_core.specs.declared.tern.Tern.TheVariants.{Zero, One, Unknown}
use Rattle.switch_response.specs.declared.transistor.Channel.{Channel}
use Rattle.switch_response.specs.declared.transistor.Channel.TheVariants.{N, P}
use Rattle.switch_response.specs.Walks.{Net, Step, value_at, is_on, is_passing, Leads, end_of, strength, IsWalk, IsDefinite, IsReachedAbove, IsBlocked, Arrives, AllRootsAt, Becomes, IsResponse, IsNet}
use Rattle.tern_core.specs.Order.{IsAtMost, AreAtMost}
use Rattle.tern_core.proofs.Lists.{same, all_same, all_equal}

-- at most as known, at each place
abbrev pub AreKnown : List Tern → List Tern → Type 0
AreKnown a b = (node : ℕ) → IsAtMost (value_at a node) (value_at b node)

pub on_more : (c : Channel) (x y : Tern) → IsAtMost x y → IsTrue (is_on c x) → IsTrue (is_on c y)
on_more N One y e h = subst (λ v. IsTrue (is_on N v)) e refl
on_more N Zero y e h = cc
on_more N Unknown y e h = cc
on_more P Zero y e h = subst (λ v. IsTrue (is_on P v)) e refl
on_more P One y e h = cc
on_more P Unknown y e h = cc

pub passing_less : (c : Channel) (x y : Tern) → IsAtMost x y → IsTrue (is_passing c y) → IsTrue (is_passing c x)
passing_less N One y e h = refl
passing_less N Zero y e h = absurd (let g : false ≡ true = subst (λ v. IsTrue (is_passing N v)) (sym e) h in cc)
passing_less N Unknown y e h = refl
passing_less P Zero y e h = refl
passing_less P One y e h = absurd (let g : false ≡ true = subst (λ v. IsTrue (is_passing P v)) (sym e) h in cc)
passing_less P Unknown y e h = refl

pub on_passing : (c : Channel) (x : Tern) → IsTrue (is_on c x) → IsTrue (is_passing c x)
on_passing N One h = refl
on_passing N Zero h = cc
on_passing N Unknown h = refl
on_passing P Zero h = refl
on_passing P One h = cc
on_passing P Unknown h = refl

-- What is less known is compared with what is more known.
module _ (net : Net) (a b : List Tern) (known : AreKnown a b) where
  pub walk_less : (root : ℕ) (steps : List Step) → IsWalk net b root steps → IsWalk net a root steps
  walk_less root [] w = w
  walk_less root (s ∷ steps) w = (walk_less root steps w.0, w.1, passing_less s.by.channel _ _ (known s.by.gate) w.2, w.3, w.4)

  pub definite_walk_more : (root : ℕ) (steps : List Step) → IsWalk net a root steps → IsDefinite a steps → IsWalk net b root steps
  definite_walk_more root [] w d = w
  definite_walk_more root (s ∷ steps) w d = (definite_walk_more root steps w.0 d.0, w.1, on_passing s.by.channel _ (on_more s.by.channel _ _ (known s.by.gate) d.1), w.3, w.4)

  pub definite_more : (steps : List Step) → IsDefinite a steps → IsDefinite b steps
  definite_more [] d = d
  definite_more (s ∷ steps) d = (definite_more steps d.0, on_more s.by.channel _ _ (known s.by.gate) d.1)

  pub above_more : (node least : ℕ) → IsReachedAbove net a node least → IsReachedAbove net b node least
  above_more node least r = record {
    root = r.root;
    steps = r.steps;
    walk = definite_walk_more r.root r.steps r.walk r.definite;
    definite = definite_more r.steps r.definite;
    reaches = r.reaches;
    stronger = r.stronger;
  }

  pub blocked_more : (root : ℕ) (steps : List Step) → IsBlocked net a root steps → IsBlocked net b root steps
  blocked_more root [] h = above_more _ _ h
  blocked_more root (s ∷ steps) (inl h) = inl (blocked_more root steps h)
  blocked_more root (s ∷ steps) (inr h) = inr (above_more _ _ h)

  pub arrives_less : (node root : ℕ) (steps : List Step) → Arrives net b node root steps → Arrives net a node root steps
  arrives_less node root steps r = record {
    walk = walk_less root steps r.walk;
    reaches = r.reaches;
    unblocked = λ h. r.unblocked (blocked_more root steps h);
  }

pub strength_bounded : (net : Net) (top : ℕ) → ((n : ℕ) → slice_index net.strengths n ≤ top) → (root : ℕ) (steps : List Step) → strength net root steps ≤ top
strength_bounded net top bound root [] = bound root
strength_bounded net top bound root (s ∷ steps) = let h : strength net root steps ≤ top = strength_bounded net top bound root steps in omega arith

-- A node that a definite walk reaches has an unblocked walk that is no weaker: by levels from the strongest down.
module _ (net : Net) (values : List Tern) (Goal : Type 0)
    (decide : (node least : ℕ) → (IsReachedAbove net values node least → Goal) → ((IsReachedAbove net values node least → ⊥) → Goal) → Goal) where
  Found : ℕ → Type 0
  Found level = (root : ℕ) (steps : List Step) → IsWalk net values root steps → IsDefinite values steps → level ≤ strength net root steps
      → ((from : ℕ) (walk : List Step) → Arrives net values (end_of root steps) from walk → level ≤ strength net from walk → Goal) → Goal

  -- one level down
  found_below : (level : ℕ) → Found (suc level) → Found level
  unfolding Found
  found_below level above root [] w d h k =
      decide root (strength net root [])
      (λ r. above r.root r.steps r.walk r.definite (omega (arith, r.stronger)) (λ from walk arrives g. k from walk (subst (λ n. Arrives net values n from walk) r.reaches arrives) (omega arith)))
      (λ not. k root [] (record { walk = w; reaches = refl; unblocked = not }) h)
  found_below level above root (s ∷ steps) w d h k =
      found_below level above root steps w.0 d.0 (omega arith) (λ from walk arrives g.
      decide s.to (strength net from (s ∷ walk))
      (λ r. above r.root r.steps r.walk r.definite (omega (arith, r.stronger)) (λ from2 walk2 arrives2 g2. k from2 walk2 (subst (λ n. Arrives net values n from2 walk2) r.reaches arrives2) (omega arith)))
      (λ not. k from (s ∷ walk) (record {
        walk = (arrives.walk, w.1, w.2, subst (λ n. Leads s.by n s.to) (sym arrives.reaches) w.3, w.4);
        reaches = refl;
        unblocked = elim [ inl b ↦ arrives.unblocked b | inr b ↦ not b ];
      }) (omega arith)))

  found : (top : ℕ) → ((n : ℕ) → slice_index net.strengths n ≤ top) → (fuel level : ℕ) → top < level + fuel → Found level
  unfolding Found
  found top bound zero level e = λ root steps w d h k. absurd (omega (arith, strength_bounded net top bound root steps))
  found top bound (suc fuel) level e = found_below level (found top bound fuel (suc level) (omega arith))

  -- each node that a definite walk reaches has an unblocked walk
  pub has_unblocked : (top : ℕ) → ((n : ℕ) → slice_index net.strengths n ≤ top) → (root : ℕ) (steps : List Step) → IsWalk net values root steps → IsDefinite values steps
      → ((from : ℕ) (walk : List Step) → Arrives net values (end_of root steps) from walk → strength net root steps ≤ strength net from walk → Goal) → Goal
  unfolding Found
  has_unblocked top bound root steps w d k = found top bound (suc top) (strength net root steps) (omega arith) root steps w d (omega arith) k

-- It can't be that a storage node has no unblocked walk.
pub some_arrives : (net : Net) (values : List Tern) → IsNet net → (node : ℕ) → node < net.storage → ((root : ℕ) (steps : List Step) → Arrives net values node root steps → ⊥) → ⊥
some_arrives net values ok node lt none =
    has_unblocked net values ⊥ (λ n least yes no. no yes) 8 ok.strongest node [] (omega (arith, ok.storage)) tt (λ from walk arrives g. none from walk arrives)

pub not_both : (net : Net) (values : List Tern) → IsNet net → (node : ℕ) → node < net.storage → AllRootsAt net values node One → AllRootsAt net values node Zero → ⊥
not_both net values ok node lt ones zeros =
    some_arrives net values ok node lt (λ root steps r. let p = ones root steps r in let q = zeros root steps r in cc)

module _ (net : Net) (ok : IsNet net) (a b : List Tern) (known : AreKnown a b) where
  one_more : (node : ℕ) → AllRootsAt net a node One → AllRootsAt net b node One
  one_more node all root steps r = sym (subst (λ v. IsAtMost v (value_at b root)) (all root steps (arrives_less net a b known node root steps r)) (known root))

  zero_more : (node : ℕ) → AllRootsAt net a node Zero → AllRootsAt net b node Zero
  zero_more node all root steps r = sym (subst (λ v. IsAtMost v (value_at b root)) (all root steps (arrives_less net a b known node root steps r)) (known root))

  pub becomes_at_most : (node : ℕ) → node < net.storage → (x y : Tern) → Becomes net a node x → Becomes net b node y → IsAtMost x y
  becomes_at_most node lt Unknown y h g = tt
  becomes_at_most node lt One One h g = refl
  becomes_at_most node lt One Zero h g = absurd (not_both net b ok node lt (one_more node h) g)
  becomes_at_most node lt One Unknown h g = absurd (g.0 (one_more node h))
  becomes_at_most node lt Zero Zero h g = refl
  becomes_at_most node lt Zero One h g = absurd (not_both net b ok node lt g (zero_more node h))
  becomes_at_most node lt Zero Unknown h g = absurd (g.1 (zero_more node h))

  -- where one state is at most as known as another, so are their responses
  monotone_at : (x y : List Tern) → IsResponse net a x → IsResponse net b y → (node : ℕ) → node < net.storage → IsAtMost (value_at x node) (value_at y node)
  monotone_at x y r t node lt = becomes_at_most node lt _ _ (r.each node lt) (t.each node lt)

known_all : (a b : List Tern) → AreAtMost a b → AreKnown a b
known_all [] [] h node = same (value_at [] node)
known_all (x ∷ xs) (y ∷ ys) h zero = h.0
known_all (x ∷ xs) (y ∷ ys) h (suc k) = known_all xs ys h.1 k
known_all [] (y ∷ ys) h k = absurd h
known_all (x ∷ xs) [] h k = absurd h

all_front : (a b pins : List Tern) → AreAtMost a b → AreAtMost (a ++ pins) (b ++ pins)
all_front [] [] pins h = all_same pins
all_front (x ∷ xs) (y ∷ ys) pins h = (h.0, all_front xs ys pins h.1)
all_front [] (y ∷ ys) pins h = absurd h
all_front (x ∷ xs) [] pins h = absurd h

known_lists : (a b : List Tern) → length a ≡ length b → ((node : ℕ) → node < length a → IsAtMost (value_at a node) (value_at b node)) → AreAtMost a b
known_lists [] [] e h = tt
known_lists (x ∷ xs) (y ∷ ys) e h = (h 0 (omega arith), known_lists xs ys (omega arith) (λ k lt. h (suc k) (omega arith)))
known_lists [] (y ∷ ys) e h = absurd (omega arith)
known_lists (x ∷ xs) [] e h = absurd (omega arith)

-- where all values are at most as known as others, so are the responses
pub monotone : (n : Net) (a b x y : List Tern) → IsNet n → AreAtMost a b → IsResponse n a x → IsResponse n b y → AreAtMost x y
monotone n a b x y ok known r t =
    known_lists x y (r.count ∙ sym t.count) (λ node lt. monotone_at n ok a b (known_all a b known) x y r t node (omega (arith, r.count)))

-- the same for states under equal pins
pub monotone_state : (n : Net) (pins a b x y : List Tern) → IsNet n → AreAtMost a b → IsResponse n (a ++ pins) x → IsResponse n (b ++ pins) y → AreAtMost x y
monotone_state n pins a b x y ok known r t = monotone n (a ++ pins) (b ++ pins) x y ok (all_front a b pins known) r t

-- values have one response
pub one_response : (n : Net) (values x y : List Tern) → IsNet n → IsResponse n values x → IsResponse n values y → x ≡ y
one_response n values x y ok r t =
    all_equal x y (monotone n values values x y ok (all_same values) r t) (monotone n values values y x ok (all_same values) t r)
