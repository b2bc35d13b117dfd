-- The listed orders of some inputs are the lists in which each stands as often as among them.
use Rattle.std.proofs.Common.{◌≡◌, ℕ, ◌+◌, ◌<◌, cond, eqb, List, [], ◌∷◌, ◌++◌, map, refl, ap, sym, ◌∙◌, subst, ◌⊎◌, inl, inr, ⊎_elim, arith, eq-eqb}
use Rattle.std.proofs.lemmas.Bool.{cases_eq, ne_eqb}
use Rattle.std.specs.List.{flat_map}
use Rattle.std.specs.List.Sorted.{IsPermutation}
use Rattle.std.proofs.lemmas.List.Recursion.{is_sum_by}
use Rattle.std.proofs.lemmas.List.Sorted.{IsPermutation-refl, IsPermutation-trans, IsPermutation-cons, IsPermutation-middle, sum_by-IsPermutation}
use Rattle.udp_table.specs.Orders.{insertions, orders_of}
use Rattle.udp_table.specs.Reached.{times, IsOrderOf}

-- ---- membership

abbrev pub Among : {X : Type 0} → X → List X → Type 0
Among x [] = ⊥
Among x (y ∷ ys) = (x ≡ y) ⊎ Among x ys

pub among_left : {X : Type 0} (x : X) (xs ys : List X) → Among x xs → Among x (xs ++ ys)
among_left x [] ys h = absurd h
among_left x (z ∷ zs) ys (inl e) = inl e
among_left x (z ∷ zs) ys (inr h) = inr (among_left x zs ys h)

pub among_right : {X : Type 0} (x : X) (xs ys : List X) → Among x ys → Among x (xs ++ ys)
among_right x [] ys h = h
among_right x (z ∷ zs) ys h = inr (among_right x zs ys h)

pub among_either : {X : Type 0} (x : X) (xs ys : List X) → Among x (xs ++ ys) → Among x xs ⊎ Among x ys
among_either x [] ys h = inr h
among_either x (z ∷ zs) ys (inl e) = inl (inl e)
among_either x (z ∷ zs) ys (inr h) = ⊎_elim (λ l. inl (inr l)) (λ r. inr r) (among_either x zs ys h)

pub among_map : {X Y : Type 0} (f : X → Y) (x : X) (xs : List X) → Among x xs → Among (f x) (map f xs)
among_map f x [] h = absurd h
among_map f x (z ∷ zs) (inl e) = inl (ap f e)
among_map f x (z ∷ zs) (inr h) = inr (among_map f x zs h)

pub among_map-from : {X Y : Type 0} (f : X → Y) (y : Y) (xs : List X) → Among y (map f xs) → (x : X) × Among x xs × (y ≡ f x)
among_map-from f y [] h = absurd h
among_map-from f y (z ∷ zs) (inl e) = (z, inl refl, e)
among_map-from f y (z ∷ zs) (inr h) = let r = among_map-from f y zs h in (r.0, inr r.1, r.2)

pub among_flat_map : {X Y : Type 0} (f : X → List Y) (y : Y) (x : X) (xs : List X) → Among x xs → Among y (f x) → Among y (flat_map f xs)
among_flat_map f y x [] h k = absurd h
among_flat_map f y x (z ∷ zs) (inl e) k = among_left y (f z) (flat_map f zs) (subst (λ w. Among y (f w)) e k)
among_flat_map f y x (z ∷ zs) (inr h) k = among_right y (f z) (flat_map f zs) (among_flat_map f y x zs h k)

pub among_flat_map-from : {X Y : Type 0} (f : X → List Y) (y : Y) (xs : List X) → Among y (flat_map f xs) → (x : X) × Among x xs × Among y (f x)
among_flat_map-from f y [] h = absurd h
among_flat_map-from f y (z ∷ zs) h =
    ⊎_elim (λ l. (z, inl refl, l)) (λ r. let s = among_flat_map-from f y zs r in (s.0, inr s.1, s.2)) (among_either y (f z) (flat_map f zs) h)

-- ---- counts

pub times-append : (x : ℕ) (ys zs : List ℕ) → times x (ys ++ zs) ≡ times x ys + times x zs
times-append x [] zs = omega arith
times-append x (y ∷ ys) zs = omega (arith, times-append x ys zs)

pub times-same : (x : ℕ) (ys : List ℕ) → times x (x ∷ ys) ≡ 1 + times x ys
times-same x ys = ap (λ b. cond b 1 0 + times x ys) (eq-eqb x x refl)

-- an element that is in a list cuts it
pub cut_at : (x : ℕ) (ys : List ℕ) → 0 < times x ys → (front : List ℕ) × ((back : List ℕ) × (ys ≡ front ++ x ∷ back))
cut_at x [] h = absurd (omega arith)
cut_at x (y ∷ ys) h =
    ⊎_elim
    (λ e. ([], (ys, ap (λ z. z ∷ ys) (sym e))))
    (λ ne.
    let counted : 0 < 0 + times x ys = subst (λ b. 0 < cond b 1 0 + times x ys) (ne_eqb x y ne) h in
    let rest : 0 < times x ys = omega arith in
    let r = cut_at x ys rest in
    (y ∷ r.0, (r.1.0, ap (λ zs. y ∷ zs) r.1.1))) (cases_eq x y)

pub times-cut : (w x : ℕ) (front back : List ℕ) → times w (front ++ x ∷ back) ≡ times w (x ∷ (front ++ back))
times-cut w x front back = omega (arith, times-append w front (x ∷ back), times-append w front back)

-- ---- insertions and orders

insertion-times : (x w : ℕ) (ys zs : List ℕ) → Among zs (insertions x ys) → times w zs ≡ times w (x ∷ ys)
insertion-times x w [] zs (inl e) = ap (times w) e
insertion-times x w [] zs (inr h) = absurd h
insertion-times x w (y ∷ ys) zs (inl e) = ap (times w) e
insertion-times x w (y ∷ ys) zs (inr h) =
    let r = among_map-from (λ us. y ∷ us) zs (insertions x ys) h in
    let step : times w r.0 ≡ times w (x ∷ ys) = insertion-times x w ys r.0 r.1 in
    ap (times w) r.2 ∙ omega (arith, step)

inserted : (x : ℕ) (front back : List ℕ) → Among (front ++ x ∷ back) (insertions x (front ++ back))
inserted x [] [] = inl refl
inserted x [] (y ∷ ys) = inl refl
inserted x (y ∷ front) back =
    inr (among_map (λ us. y ∷ us) (front ++ x ∷ back) (insertions x (front ++ back)) (inserted x front back))

-- each listed order is one
pub listed-is : (xs order : List ℕ) → Among order (orders_of xs) → IsOrderOf xs order
listed-is [] order (inl e) w = ap (times w) e
listed-is [] order (inr h) w = absurd h
listed-is (x ∷ xs) order h w =
    let r = among_flat_map-from (insertions x) order (orders_of xs) h in
    let rest : times w r.0 ≡ times w xs = listed-is xs r.0 r.1 w in
    insertion-times x w r.0 order r.2 ∙ omega (arith, rest)

nothing : (order : List ℕ) → IsOrderOf [] order → order ≡ []
nothing [] h = refl
nothing (x ∷ order) h = absurd (omega (arith, h x, times-same x order))

-- and each order is listed
pub is-listed : (xs order : List ℕ) → IsOrderOf xs order → Among order (orders_of xs)
is-listed [] order h = inl (nothing order h)
is-listed (x ∷ xs) order h =
    let cut = cut_at x order (omega (arith, h x, times-same x xs)) in
    let front = cut.0 in
    let back = cut.1.0 in
    let rest : IsOrderOf xs (front ++ back) = λ w. omega (arith, h w, ap (times w) cut.1.1, times-cut w x front back) in
    among_flat_map (insertions x) order (front ++ back) (orders_of xs) (is-listed xs (front ++ back) rest)
    (subst (λ zs. Among zs (insertions x (front ++ back))) (sym cut.1.1) (inserted x front back))

-- ---- orders as permutations

insertion-permutes : (x : ℕ) (ys zs : List ℕ) → Among zs (insertions x ys) → IsPermutation (x ∷ ys) zs
insertion-permutes x [] zs (inl e) = subst (IsPermutation (x ∷ [])) (sym e) (IsPermutation-refl (x ∷ []))
insertion-permutes x [] zs (inr h) = absurd h
insertion-permutes x (y ∷ ys) zs (inl e) = subst (IsPermutation (x ∷ y ∷ ys)) (sym e) (IsPermutation-refl (x ∷ y ∷ ys))
insertion-permutes x (y ∷ ys) zs (inr h) =
    let r = among_map-from (λ us. y ∷ us) zs (insertions x ys) h in
    subst (IsPermutation (x ∷ y ∷ ys)) (sym r.2)
    (IsPermutation-trans (x ∷ y ∷ ys) (y ∷ x ∷ ys) (y ∷ r.0) (IsPermutation-middle (x ∷ []) y ys) (IsPermutation-cons y (x ∷ ys) r.0 (insertion-permutes x ys r.0 r.1)))

pub listed-permutes : (xs order : List ℕ) → Among order (orders_of xs) → IsPermutation xs order
listed-permutes [] order (inl e) = subst (IsPermutation []) (sym e) (IsPermutation-refl [])
listed-permutes [] order (inr h) = absurd h
listed-permutes (x ∷ xs) order h =
    let r = among_flat_map-from (insertions x) order (orders_of xs) h in
    IsPermutation-trans (x ∷ xs) (x ∷ r.0) order (IsPermutation-cons x xs r.0 (listed-permutes xs r.0 r.1)) (insertion-permutes x r.0 order r.2)

pub permutes-listed : (xs order : List ℕ) → IsPermutation xs order → Among order (orders_of xs)
permutes-listed xs order h =
    is-listed xs order (λ w.
    let one : ℕ → ℕ = λ y. cond (eqb w y) 1 0 in
    is_sum_by (times w) one refl (λ _ _. refl) order ∙ sum_by-IsPermutation one xs order h ∙ sym (is_sum_by (times w) one refl (λ _ _. refl) xs))
