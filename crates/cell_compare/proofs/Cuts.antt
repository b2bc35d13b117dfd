-- A list that is cut at two places.
use Rattle.std.proofs.Common.{◌≡◌, ◌⊎◌, inl, inr, ℕ, ◌<◌, List, [], ◌∷◌, ◌++◌, Option, Some, None, refl, sym, ap, ◌∙◌, arith}
use Rattle.std.proofs.lemmas.List.{append-nil}

pub none_some : {X : Type 0} (o : Option X) (x : X) → o ≡ None → o ≡ Some x → ⊥
none_some o x e f = cc

pub same_some : {X : Type 0} (o : Option X) (x y : X) → o ≡ Some x → o ≡ Some y → x ≡ y
same_some o x y e f = cc

-- the one of two places that is before neither
pub same_place : (p q : ℕ) → (p < q → ⊥) → (q < p → ⊥) → p ≡ q
same_place p q f g = omega arith

heads : {T : Type 0} (x y : T) (xs ys : List T) → x ∷ xs ≡ y ∷ ys → x ≡ y
heads x y xs ys e = cc

tails : {T : Type 0} (x y : T) (xs ys : List T) → x ∷ xs ≡ y ∷ ys → xs ≡ ys
tails x y xs ys e = cc

-- the second cut comes later, or they are one
abbrev pub IsLater : {T : Type 0} → List T → List T → List T → List T → Type 0
IsLater {T} xs cs ys bs = (w : List T) × (ys ≡ xs ++ w) × (cs ≡ w ++ bs)

later_in : {T : Type 0} (x y : T) (xs cs ys bs : List T) → x ≡ y → IsLater xs cs ys bs → IsLater (x ∷ xs) cs (y ∷ ys) bs
later_in x y xs cs ys bs e c = (c.0, ap (λ z. y ∷ z) c.1 ∙ ap (λ z. z ∷ (xs ++ c.0)) (sym e), c.2)

pub later_or_sooner : {T : Type 0} (xs cs ys bs : List T) → xs ++ cs ≡ ys ++ bs → IsLater xs cs ys bs ⊎ IsLater ys bs xs cs
later_or_sooner [] cs ys bs e = inl (ys, refl, e)
later_or_sooner (x ∷ xs) cs [] bs e = inr (x ∷ xs, refl, sym e)
later_or_sooner (x ∷ xs) cs (y ∷ ys) bs e =
    let head : x ≡ y = heads x y (xs ++ cs) (ys ++ bs) e in
    elim (later_or_sooner xs cs ys bs (tails x y (xs ++ cs) (ys ++ bs) e)) [
      | inl c ↦ inl (later_in x y xs cs ys bs head c)
      | inr c ↦ inr (later_in y x ys bs xs cs (sym head) c)
    ]

not_later : {T : Type 0} (before after others rest : List T) (x y : T) → IsLater before (x ∷ after) others (y ∷ rest)
    → ((w : List T) → others ≡ before ++ x ∷ w → ⊥) → (before ≡ others) × (x ≡ y)
not_later {T} before after others rest x y c f = go c.0 c.1 c.2
  where
    go : (w : List T) → others ≡ before ++ w → x ∷ after ≡ w ++ y ∷ rest → (before ≡ others) × (x ≡ y)
    go [] e h = (sym (e ∙ append-nil before), heads x y after rest h)
    go (t ∷ w) e h = absurd (f w (e ∙ ap (λ z. before ++ z ∷ w) (sym (heads x t after (w ++ y ∷ rest) h))))

-- an item that stands before neither of two places stands at one place
pub same_middle : {T : Type 0} (before after others rest : List T) (x y : T) → before ++ x ∷ after ≡ others ++ y ∷ rest
    → ((w : List T) → others ≡ before ++ x ∷ w → ⊥) → ((w : List T) → before ≡ others ++ y ∷ w → ⊥) → (before ≡ others) × (x ≡ y)
same_middle before after others rest x y e f g = elim (later_or_sooner before (x ∷ after) others (y ∷ rest) e) [
  | inl c ↦ not_later before after others rest x y c f
  | inr c ↦ let r = not_later others rest before after y x c g in (sym r.0, sym r.1)
]
