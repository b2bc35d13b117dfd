-- Subsets by number: which elements they have, and the subsets without one of them.
use Rattle.std.proofs.Common.{◌≡◌, ℕ, suc, ◌+◌, ◌-◌, ◌*◌, ◌/◌, ◌%◌, ◌^◌, ◌<◌, ◌≤◌, cond, eqb, List, [], ◌∷◌, map, length, refl, ap, sym, ◌∙◌, subst, inl, inr, ⊎_elim, arith, eq-eqb}
use Rattle.std.proofs.Math.Nat.{pow-suc}
use Rattle.std.proofs.Math.Pow.{pow_pos}
use Rattle.std.proofs.lemmas.Bool.{cases_eq, ne_eqb}
use Rattle.udp_table.specs.Subsets.{members}
use Rattle.udp_table.specs.Reached.{times}
use Rattle.udp_table.proofs.Orders.{Among, among_map, among_map-from, times-same}

-- ---- the lowest bit

odd_members : (x : ℕ) (xs : List ℕ) (q r : ℕ) → q % 2 ≡ 1 → q / 2 ≡ r → members (x ∷ xs) q ≡ x ∷ members xs r
odd_members x xs q r odd h =
    ap (λ b. cond b (x ∷ members xs (q / 2)) (members xs (q / 2))) (eq-eqb (q % 2) 1 odd) ∙ ap (λ n. x ∷ members xs n) h

even_members : (x : ℕ) (xs : List ℕ) (q r : ℕ) → (q % 2 ≡ 1 → ⊥) → q / 2 ≡ r → members (x ∷ xs) q ≡ members xs r
even_members x xs q r even h =
    ap (λ b. cond b (x ∷ members xs (q / 2)) (members xs (q / 2))) (ne_eqb (q % 2) 1 even) ∙ ap (members xs) h

pub members-zero : (xs : List ℕ) → members xs 0 ≡ []
members-zero [] = refl
members-zero (x ∷ xs) = members-zero xs

pub members-full : (xs : List ℕ) → members xs (2 ^ length xs - 1) ≡ xs
members-full [] = refl
members-full (x ∷ xs) =
    let whole : 2 ^ suc (length xs) ≡ 2 ^ length xs * 2 = pow-suc 2 (length xs) in
    let some : 1 ≤ 2 ^ length xs = pow_pos (length xs) in
    odd_members x xs (2 ^ suc (length xs) - 1) (2 ^ length xs - 1) (omega arith) (omega arith) ∙ ap (λ ys. x ∷ ys) (members-full xs)

-- an element of a subset stands in it at most as often as in the list
pub members-times : (w : ℕ) (xs : List ℕ) (q : ℕ) → times w (members xs q) ≤ times w xs
members-times w [] q = omega arith
members-times w (x ∷ xs) q =
    let rest = members-times w xs (q / 2) in
    ⊎_elim (λ odd. rw (odd_members x xs q (q / 2) odd refl) (omega arith)) (λ even. rw (even_members x xs q (q / 2) even refl) (omega arith)) (cases_eq (q % 2) 1)

pub members-some : (xs : List ℕ) (q : ℕ) → 0 < q → q < 2 ^ length xs → (w : ℕ) × (0 < times w (members xs q))
members-some [] q h k = absurd (omega arith)
members-some (x ∷ xs) q h k =
    let whole : 2 ^ suc (length xs) ≡ 2 ^ length xs * 2 = pow-suc 2 (length xs) in
    ⊎_elim
    (λ odd. (x, rw (odd_members x xs q (q / 2) odd refl) (omega (arith, times-same x (members xs (q / 2))))))
    (λ even.
    let positive : 0 < q / 2 = omega arith in
    let small : q / 2 < 2 ^ length xs = omega arith in
    let r = members-some xs (q / 2) positive small in
    (r.0, subst (λ ys. 0 < times r.0 ys) (sym (even_members x xs q (q / 2) even refl)) r.1)) (cases_eq (q % 2) 1)

-- ---- the elements of a subset, each with the number of the subset of it alone

abbrev pub doubled : ℕ × ℕ → ℕ × ℕ
doubled p = (p.0, 2 * p.1)

abbrev pub picks : List ℕ → ℕ → List (ℕ × ℕ)
picks [] q = []
picks (x ∷ xs) q = cond (eqb (q % 2) 1) ((x, 1) ∷ map doubled (picks xs (q / 2))) (map doubled (picks xs (q / 2)))

-- without the element the subset has the others
pub record Picks (xs : List ℕ) (q : ℕ) (p : ℕ × ℕ) : Type 0 where
  pub some : 0 < p.1
  pub below : p.1 ≤ q
  pub others : (w : ℕ) → times w (p.0 ∷ members xs (q - p.1)) ≡ times w (members xs q)

pick_here : (x : ℕ) (xs : List ℕ) (q : ℕ) → q % 2 ≡ 1 → Picks (x ∷ xs) q (x, 1)
pick_here x xs q odd = record {
  some = omega arith;
  below = omega arith;
  others = λ w. rw (odd_members x xs q (q / 2) odd refl, even_members x xs (q - 1) (q / 2) (omega arith) (omega arith)) refl;
}

pick_behind : (x : ℕ) (xs : List ℕ) (q : ℕ) (p : ℕ × ℕ) → Picks xs (q / 2) p → Picks (x ∷ xs) q (doubled p)
pick_behind x xs q p h =
    ⊎_elim
    (λ odd. record {
      some = omega arith;
      below = omega arith;
      others = λ w. rw (odd_members x xs q (q / 2) odd refl, odd_members x xs (q - 2 * p.1) (q / 2 - p.1) (omega arith) (omega arith)) (omega (arith, h.others w));
    })
    (λ even. record {
      some = omega arith;
      below = omega arith;
      others = λ w. rw (even_members x xs q (q / 2) even refl, even_members x xs (q - 2 * p.1) (q / 2 - p.1) (omega arith) (omega arith)) (omega (arith, h.others w));
    }) (cases_eq (q % 2) 1)

pub picks-are : (xs : List ℕ) (q : ℕ) (p : ℕ × ℕ) → Among p (picks xs q) → Picks xs q p
picks-are [] q p h = absurd h
picks-are (x ∷ xs) q p h =
    let behind : (r : ℕ × ℕ) → Among r (map doubled (picks xs (q / 2))) → Picks (x ∷ xs) q r = λ r k.
    let s = among_map-from doubled r (picks xs (q / 2)) k in
    subst (Picks (x ∷ xs) q) (sym s.2) (pick_behind x xs q s.0 (picks-are xs (q / 2) s.0 s.1)) in
    ⊎_elim
    (λ odd.
    let split = subst (λ b. Among p (cond b ((x, 1) ∷ map doubled (picks xs (q / 2))) (map doubled (picks xs (q / 2))))) (eq-eqb (q % 2) 1 odd) h in
    ⊎_elim (λ e. subst (Picks (x ∷ xs) q) (sym e) (pick_here x xs q odd)) (behind p) split)
    (λ even.
    behind p (subst (λ b. Among p (cond b ((x, 1) ∷ map doubled (picks xs (q / 2))) (map doubled (picks xs (q / 2))))) (ne_eqb (q % 2) 1 even) h)) (cases_eq (q % 2) 1)

-- each element of the subset is picked
pub picks-have : (x : ℕ) (xs : List ℕ) (q : ℕ) → 0 < times x (members xs q) → (d : ℕ) × Among (x, d) (picks xs q)
picks-have x [] q h = absurd (omega arith)
picks-have x (y ∷ ys) q h =
    ⊎_elim
    (λ odd.
    let here : 0 < times x (y ∷ members ys (q / 2)) = subst (λ zs. 0 < times x zs) (odd_members y ys q (q / 2) odd refl) h in
    ⊎_elim
    (λ e. (1, subst (λ b. Among (x, 1) (cond b ((y, 1) ∷ map doubled (picks ys (q / 2))) (map doubled (picks ys (q / 2))))) (sym (eq-eqb (q % 2) 1 odd)) (inl (ap (λ z. (z, 1)) e))))
    (λ ne.
    let counted : 0 < 0 + times x (members ys (q / 2)) = subst (λ b. 0 < cond b 1 0 + times x (members ys (q / 2))) (ne_eqb x y ne) here in
    let r = picks-have x ys (q / 2) (omega arith) in
    (2 * r.0, subst (λ b. Among (x, 2 * r.0) (cond b ((y, 1) ∷ map doubled (picks ys (q / 2))) (map doubled (picks ys (q / 2))))) (sym (eq-eqb (q % 2) 1 odd)) (inr (among_map doubled (x, r.0) (picks ys (q / 2)) r.1)))) (cases_eq x y))
    (λ even.
    let r = picks-have x ys (q / 2) (subst (λ zs. 0 < times x zs) (even_members y ys q (q / 2) even refl) h) in
    (2 * r.0, subst (λ b. Among (x, 2 * r.0) (cond b ((y, 1) ∷ map doubled (picks ys (q / 2))) (map doubled (picks ys (q / 2))))) (sym (ne_eqb (q % 2) 1 even)) (among_map doubled (x, r.0) (picks ys (q / 2)) r.1))) (cases_eq (q % 2) 1)
