-- A list has exactly one answer, and it is what is read.
use Rattle.std.proofs.Common.{◌≡◌, false, List, [], ◌∷◌, ◌++◌, Result, Ok, Err, ◌⊎◌, inl, inr, refl, sym, ap, subst, ◌∙◌, append_assoc}
use Rattle.std.proofs.lemmas.List.{append-nil}
use Rattle.grammar.specs.Rule.{Rule, Takes, Whole}
use Rattle.grammar.specs.Reading.{Stop, syntax, refusal, read, IsSimple}
use Rattle.grammar.specs.Answers.{NoFurther, StopsAt, RefusesAt, IsAnswer, read_all}
use Rattle.grammar.proofs.Fronts.{FrontThen}
use Rattle.grammar.proofs.Refuses.{comes, last_on}
use Rattle.grammar.proofs.Prefix.{Nothing, front_prefix, taken_then, acting_then}
use Rattle.grammar.proofs.Passes.{front_passes}
use Rattle.grammar.proofs.Answer.{answers, value_is_read, refusal_is_read}

-- two ways to cut one list: the second later, or the first
abbrev Cut : {T : Type 0} → List T → List T → List T → List T → Type 0
Cut {T} xs cs ys bs = (w : List T) × (ys ≡ xs ++ w) × (cs ≡ w ++ bs)

compare : {T : Type 0} (xs cs ys bs : List T) → xs ++ cs ≡ ys ++ bs → Cut xs cs ys bs ⊎ Cut ys bs xs cs
compare [] cs ys bs e = inl (ys, refl, e)
compare (x ∷ xs) cs [] bs e = inr (x ∷ xs, refl, sym e)
compare {T} (x ∷ xs) cs (y ∷ ys) bs e = go (compare xs cs ys bs (tails (xs ++ cs) (ys ++ bs) e))
  where
    tails : (us vs : List T) → x ∷ us ≡ y ∷ vs → us ≡ vs
    tails us vs e = cc

    heads : (us vs : List T) → x ∷ us ≡ y ∷ vs → x ≡ y
    heads us vs e = cc

    head : x ≡ y
    head = heads (xs ++ cs) (ys ++ bs) e

    go : Cut xs cs ys bs ⊎ Cut ys bs xs cs → Cut (x ∷ xs) cs (y ∷ ys) bs ⊎ Cut (y ∷ ys) bs (x ∷ xs) cs
    go (inl c) = inl (c.0, ap (λ z. y ∷ z) c.1 ∙ ap (λ z. z ∷ (xs ++ c.0)) (sym head), c.2)
    go (inr c) = inr (c.0, ap (λ z. x ∷ z) c.1 ∙ ap (λ z. z ∷ (ys ++ c.0)) head, c.2)

-- where a front reaches over the token of a stop, there is none
over : {T S E : Type 0} (a : Rule T S E) (s : S) (us rest : List T) (t : T) (w : List T) → NoFurther a s us (t ∷ rest) → FrontThen a Nothing (us ++ t ∷ w) → ⊥
over a s us rest t w stop f = stop (front_prefix a (us ++ t ∷ []) w (subst (λ z. FrontThen a Nothing z) (sym (append_assoc us (t ∷ []) w)) f))

later : {T S E : Type 0} (a : Rule T S E) (s : S) (us rest : List T) (w bs : List T) → NoFurther a s us rest → rest ≡ w ++ bs → FrontThen a Nothing (us ++ w) → rest ≡ bs
later a s us rest [] bs stop e f = e
later a s us rest (t ∷ w) bs stop e f = absurd (over a s us (w ++ bs) t w (subst (λ z. NoFurther a s us z) e stop) f)

two_stops : {T S E : Type 0} (a : Rule T S E) (s : S) (ts r q : List T) → StopsAt a s ts r → StopsAt a s ts q → r ≡ q
two_stops a s ts r q x y = elim (compare x.us r y.us q (sym x.parts ∙ y.parts)) [
  | inl c ↦ later a s x.us r c.0 q x.no_further c.2 (subst (λ z. FrontThen a Nothing z) c.1 (acting_then a Nothing s y.us (Ok y.state) y.front refl))
  | inr c ↦ sym (later a s y.us q c.0 r y.no_further c.2 (subst (λ z. FrontThen a Nothing z) c.1 (acting_then a Nothing s x.us (Ok x.state) x.front refl)))
]

stop_or_whole : {T S E : Type 0} (a : Rule T S E) (s m : S) (ts r : List T) → StopsAt a s ts r → Whole a s ts m → ⊥
unfolding Whole
stop_or_whole {T} {S} {E} a s m ts r x w = go r x.no_further x.parts
  where
    go : (r : List T) → NoFurther a s x.us r → ts ≡ x.us ++ r → ⊥
    go [] stop e = stop m (subst (λ z. Takes a s z m []) (e ∙ append-nil x.us) w)
    go (t ∷ more) stop e = over a s x.us more t more stop (subst (λ z. FrontThen a Nothing z) e (taken_then a Nothing s m ts [] w refl))

stop_or_refusal : {T S E : Type 0} (a : Rule T S E) → IsSimple a (λ t. false) → (s : S) (ts r q : List T) (e : E) → StopsAt a s ts r → RefusesAt a s ts e q → ⊥
stop_or_refusal {T} {S} {E} a h s ts r q e x y = elim (compare x.us r (y.us ++ y.token ∷ []) y.more (sym x.parts ∙ y.parts ∙ ap (λ z. y.us ++ z) y.is_rest ∙ sym (append_assoc y.us (y.token ∷ []) y.more))) [
  | inl c ↦ within c.0 c.1 c.2
  | inr c ↦ front_passes a (λ t. false) h s x.state x.us x.front e (last_on (y.us ++ y.token ∷ []) c.0) (ap (read a s) c.1 ∙ comes a (λ t. false) h s (y.us ++ y.token ∷ []) c.0 e y.front)
]
  where
    within : (w : List T) → y.us ++ y.token ∷ [] ≡ x.us ++ w → r ≡ w ++ y.more → ⊥
    within [] f g = front_passes a (λ t. false) h s x.state x.us x.front e (last_on (y.us ++ y.token ∷ []) [])
        (ap (read a s) (sym (append-nil x.us) ∙ sym f ∙ sym (append-nil (y.us ++ y.token ∷ []))) ∙ comes a (λ t. false) h s (y.us ++ y.token ∷ []) [] e y.front)
    within (t ∷ w) f g = over a s x.us (w ++ y.more) t w (subst (λ z. NoFurther a s x.us z) g x.no_further) (subst (λ z. FrontThen a Nothing z) f (acting_then a Nothing s (y.us ++ y.token ∷ []) (Err e) y.front refl))

-- a stop is read
pub stop_is_read : {T S E : Type 0} (a : Rule T S E) → IsSimple a (λ t. false) → (s : S) (ts rest : List T) → StopsAt a s ts rest → read_all a s ts ≡ Err (syntax rest)
stop_is_read {T} {S} {E} a h s ts rest x = go (read_all a s ts) (answers a h s ts)
  where
    go : (o : Result S (Stop T E)) → IsAnswer a s ts o → o ≡ Err (syntax rest)
    go (Ok m) w = absurd (stop_or_whole a s m ts rest x w)
    go (Err (syntax other)) y = ap (λ z. Err (syntax z)) (sym (two_stops a s ts rest other x y))
    go (Err (refusal e other)) y = absurd (stop_or_refusal a h s ts rest other e x y)

-- whatever answer a list has by the rule is read; so it has no other
pub answer_is_read : {T S E : Type 0} (a : Rule T S E) → IsSimple a (λ t. false) → (s : S) (ts : List T) (o : Result S (Stop T E)) → IsAnswer a s ts o → read_all a s ts ≡ o
answer_is_read a h s ts (Ok m) w = value_is_read a h s m ts w
answer_is_read a h s ts (Err (syntax rest)) x = stop_is_read a h s ts rest x
answer_is_read a h s ts (Err (refusal e rest)) x = refusal_is_read a h s ts rest e x
