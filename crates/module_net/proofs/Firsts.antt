-- Names at their first places, list after list.
use Rattle.std.proofs.Common.{◌≡◌, ℕ, suc, ◌+◌, ◌<◌, Bool, true, false, cond, List, [], ◌∷◌, ◌++◌, length, drop, get_or, sym, ap, ◌∙◌, arith}
use Rattle.std.specs.List.{flat_map}
use Rattle.std.proofs.Math.Seq.{drop-cons}
use Rattle.std.proofs.lemmas.List.{append-nil, append_assoc}
use Rattle.name_index.specs.Places.{is_known}
use Rattle.module_net.specs.Naming.{firsts}

-- what is known after a list of names
pub known_after : (known names : List (List ℕ)) → List (List ℕ)
known_after known names = known ++ firsts known names

pub firsts_append : (known xs ys : List (List ℕ)) → known ++ firsts known (xs ++ ys) ≡ (known ++ firsts known xs) ++ firsts (known ++ firsts known xs) ys
firsts_append known [] ys = ap (λ z. z ++ firsts z ys) (sym (append-nil known))
firsts_append known (x ∷ xs) ys = go (is_known x known) (firsts_append known xs ys) (firsts_append (known ++ x ∷ []) xs ys)
  where
    go : (g : Bool)
        → known ++ firsts known (xs ++ ys) ≡ (known ++ firsts known xs) ++ firsts (known ++ firsts known xs) ys
        → (known ++ x ∷ []) ++ firsts (known ++ x ∷ []) (xs ++ ys) ≡ ((known ++ x ∷ []) ++ firsts (known ++ x ∷ []) xs) ++ firsts ((known ++ x ∷ []) ++ firsts (known ++ x ∷ []) xs) ys
        → known ++ cond g (firsts known (xs ++ ys)) (x ∷ firsts (known ++ x ∷ []) (xs ++ ys))
        ≡ (known ++ cond g (firsts known xs) (x ∷ firsts (known ++ x ∷ []) xs)) ++ firsts (known ++ cond g (firsts known xs) (x ∷ firsts (known ++ x ∷ []) xs)) ys
    go true same more = same
    go false same more =
        sym (append_assoc known (x ∷ []) (firsts (known ++ x ∷ []) (xs ++ ys)))
        ∙ more
        ∙ ap (λ z. z ++ firsts z ys) (append_assoc known (x ∷ []) (firsts (known ++ x ∷ []) xs))

pub three_lists : (a b c one two three : List (List ℕ)) → one ≡ firsts [] a → two ≡ one ++ firsts one b → three ≡ two ++ firsts two c → three ≡ firsts [] (a ++ b ++ c)
three_lists a b c one two three h k l =
    l
    ∙ ap (λ z. z ++ firsts z c) (k ∙ ap (λ z. z ++ firsts z b) h ∙ sym (firsts_append [] a b))
    ∙ sym (firsts_append [] (a ++ b) c)

-- a loop over a list whose items stand for names goes on by one
pub goes_on : {X : Type 0} (f : X → List (List ℕ)) (xs : List X) (i : ℕ) (x : X) (names new all : List (List ℕ)) → x ≡ get_or xs i x → i < length xs
    → new ≡ names ++ firsts names (f x) → names ++ firsts names (flat_map f (drop i xs)) ≡ all → new ++ firsts new (flat_map f (drop (i + 1) xs)) ≡ all
goes_on f xs i x names new all is less more so_far =
    ap (λ z. z ++ firsts z (flat_map f (drop (i + 1) xs))) more
    ∙ sym (firsts_append names (f x) (flat_map f (drop (i + 1) xs)))
    ∙ ap (λ z. names ++ firsts names (f z ++ flat_map f (drop (i + 1) xs))) is
    ∙ ap (λ z. names ++ firsts names (flat_map f z)) (ap (λ k. get_or xs i x ∷ drop k xs) (let e : i + 1 ≡ suc i = omega arith in e) ∙ sym (drop-cons xs i x less))
    ∙ so_far
