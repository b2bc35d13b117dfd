-- What begins a front is a front, with and without actions.
use Rattle.std.proofs.Common.{◌≡◌, ℕ, zero, suc, List, [], ◌∷◌, ◌++◌, Result, Ok, Err, ◌⊎◌, inl, inr, refl, sym, subst, ◌∙◌}
use Rattle.grammar.specs.Rule.{Rule, none, one, before, seq, alt, many, Turns, Takes, Acts, Front, Goes, IsTakes, IsFront}
use Rattle.grammar.proofs.Fronts.{FrontThen, FrontThen-nil, Times}
use Rattle.grammar.proofs.Stops.{one_more}

-- a front of the rule and then of Q, where what begins Q does too
shorter_times : {T : Type 0} (f : (List T → Type 0) → List T → Type 0) (Q : List T → Type 0)
    → ((P : List T → Type 0) → ((xs ys : List T) → P (xs ++ ys) → P xs) → (xs ys : List T) → f P (xs ++ ys) → f P xs)
    → ((xs ys : List T) → Q (xs ++ ys) → Q xs) → (n : ℕ) → (xs ys : List T) → Times n f Q (xs ++ ys) → Times n f Q xs
shorter_times f Q ih q zero xs ys h = q xs ys h
shorter_times f Q ih q (suc n) xs ys h = ih (Times n f Q) (shorter_times f Q ih q n) xs ys h

pub shorter_then : {T S E : Type 0} (a : Rule T S E) (Q : List T → Type 0) → ((xs ys : List T) → Q (xs ++ ys) → Q xs) → (xs ys : List T) → FrontThen a Q (xs ++ ys) → FrontThen a Q xs
shorter_then none Q q xs ys h = q xs ys h
shorter_then (one p f k) Q q [] ys h = tt
shorter_then (one p f k) Q q (x ∷ xs) ys h = (h.0, shorter_then (k x) Q q xs ys h.1)
shorter_then (before p) Q q [] ys h = tt
shorter_then (before p) Q q (x ∷ xs) ys h = (h.0, q (x ∷ xs) ys h.1)
shorter_then (seq a b) Q q xs ys h = shorter_then a (FrontThen b Q) (λ us vs g. shorter_then b Q q us vs g) xs ys h
shorter_then (alt a b) Q q xs ys h = elim h [ inl g ↦ inl (shorter_then a Q q xs ys g) | inr g ↦ inr (shorter_then b Q q xs ys g) ]
shorter_then (many a) Q q xs ys h = (h.0, shorter_times (FrontThen a) Q (λ P p us vs g. shorter_then a P p us vs g) q h.0 xs ys h.1)

-- a front of the rule and then of Q is a front by cases, or what the rule takes and then Q
abbrev Splits : {T S E : Type 0} → Rule T S E → (List T → Type 0) → List T → Type 0
Splits {T} a Q xs = IsFront a xs ⊎ ((rest : List T) × IsTakes a xs rest × Q rest)

times_splits : {T S E : Type 0} (a : Rule T S E) (Q : List T → Type 0) → ((P : List T → Type 0) (xs : List T) → FrontThen a P xs → Splits a P xs) → (n : ℕ) (xs : List T) → Times n (FrontThen a) Q xs → Splits (many a) Q xs
unfolding IsFront IsTakes Goes
times_splits a Q ih zero xs h = inr (xs, (zero, refl), h)
times_splits a Q ih (suc n) xs h = elim (ih (Times n (FrontThen a) Q) xs h) [
  | inl f ↦ inl (zero, xs, refl, inr f)
  | inr w ↦ elim (times_splits a Q ih n w.0 w.2) [
    | inl f ↦ inl (suc f.0, f.1, (w.0, w.1, f.2), f.3)
    | inr v ↦ inr (v.0, (suc v.1.0, (w.0, w.1, v.1.1)), v.2)
  ]
]

splits : {T S E : Type 0} (a : Rule T S E) (Q : List T → Type 0) (xs : List T) → FrontThen a Q xs → Splits a Q xs
unfolding IsFront IsTakes
splits none Q xs h = inr (xs, refl, h)
splits (one p f k) Q [] h = inl (inl refl)
splits (one p f k) Q (x ∷ xs) h = elim (splits (k x) Q xs h.1) [
  | inl g ↦ inl (inr (x, xs, refl, h.0, g))
  | inr w ↦ inr (w.0, (x, xs, refl, h.0, w.1), w.2)
]
splits (before p) Q [] h = inl refl
splits (before p) Q (x ∷ xs) h = inr (x ∷ xs, (x, xs, refl, h.0, refl), h.1)
splits (seq a b) Q xs h = elim (splits a (FrontThen b Q) xs h) [
  | inl g ↦ inl (inl g)
  | inr w ↦ elim (splits b Q w.0 w.2) [
    | inl g ↦ inl (inr (w.0, w.1, g))
    | inr v ↦ inr (v.0, (w.0, w.1, v.1), v.2)
  ]
]
splits (alt a b) Q xs h = elim h [
  | inl g ↦ elim (splits a Q xs g) [ inl f ↦ inl (inl f) | inr w ↦ inr (w.0, inl w.1, w.2) ]
  | inr g ↦ elim (splits b Q xs g) [ inl f ↦ inl (inr f) | inr w ↦ inr (w.0, inr w.1, w.2) ]
]
splits (many a) Q xs h = times_splits a Q (λ P us g. splits a P us g) h.0 xs h.1

-- what is whole without actions is a front
whole_front : {T S E : Type 0} (a : Rule T S E) (ts rest : List T) → IsTakes a ts rest → rest ≡ [] → IsFront a ts
unfolding IsTakes IsFront
whole_front none ts rest h e = h ∙ e
whole_front (one p f k) ts rest h e = inr (h.0, h.1, h.2, h.3, whole_front (k h.0) h.1 rest h.4 e)
whole_front (before p) ts rest h e = absurd (let bad = sym h.2 ∙ e in cc)
whole_front (seq a b) ts rest h e = inr (h.0, h.1, whole_front b h.0 rest h.2 e)
whole_front (alt a b) ts rest h e = elim h [ inl g ↦ inl (whole_front a ts rest g e) | inr g ↦ inr (whole_front b ts rest g e) ]
whole_front (many a) ts rest h e = (h.0, rest, h.1, inl e)

abbrev pub Nothing : {T : Type 0} → List T → Type 0
Nothing xs = xs ≡ []

nothing_shorter : {T : Type 0} (xs ys : List T) → Nothing (xs ++ ys) → Nothing xs
nothing_shorter [] ys h = refl
nothing_shorter (x ∷ xs) ys h = absurd cc

pub is_front : {T S E : Type 0} (a : Rule T S E) (ts : List T) → FrontThen a Nothing ts → IsFront a ts
is_front a ts h = elim (splits a Nothing ts h) [ inl f ↦ f | inr w ↦ whole_front a ts w.0 w.1 w.2 ]

-- what begins a front is a front
pub front_prefix : {T S E : Type 0} (a : Rule T S E) (xs ys : List T) → FrontThen a Nothing (xs ++ ys) → IsFront a xs
front_prefix a xs ys h = is_front a xs (shorter_then a Nothing nothing_shorter xs ys h)

-- ---- without the actions

turns_then : {T S E : Type 0} (a : Rule T S E) (Q : List T → Type 0) → ((P : List T → Type 0) (s m : S) (ts us : List T) → Takes a s ts m us → P us → FrontThen a P ts)
    → (n : ℕ) (s m : S) (ts us : List T) → Turns (Takes a) n s ts m us → Q us → Times n (FrontThen a) Q ts
unfolding Turns
turns_then a Q ih zero s m ts us h q = subst (λ z. Q z) (sym h.0) q
turns_then a Q ih (suc n) s m ts us h q = ih (Times n (FrontThen a) Q) s h.1 ts h.0 h.2 (turns_then a Q ih n h.1 m h.0 us h.3 q)

pub taken_then : {T S E : Type 0} (a : Rule T S E) (Q : List T → Type 0) (s m : S) (ts us : List T) → Takes a s ts m us → Q us → FrontThen a Q ts
unfolding Takes
taken_then none Q s m ts us h q = subst (λ z. Q z) (sym h.0) q
taken_then (one p f k) Q s m ts us h q = subst (λ z. FrontThen (one p f k) Q z) (sym h.3) (h.4, taken_then (k h.0) Q h.2 m h.1 us h.6 q)
taken_then {T} {S} {E} (before p) Q s m ts us h q = subst (λ z. FrontThen {S = S} {E = E} (before p) Q z) (sym (h.4 ∙ h.2)) (h.3, subst (λ z. Q z) h.2 q)
taken_then (seq a b) Q s m ts us h q = taken_then a (FrontThen b Q) s h.1 ts h.0 h.2 (taken_then b Q h.1 m h.0 us h.3 q)
taken_then (alt a b) Q s m ts us h q = elim h [ inl g ↦ inl (taken_then a Q s m ts us g q) | inr g ↦ inr (taken_then b Q s m ts us g q) ]
taken_then (many a) Q s m ts us h q = (h.0, turns_then a Q (λ P s m ts us g p. taken_then a P s m ts us g p) h.0 s m ts us h.1 q)

acts_then : {T S E : Type 0} (k : Rule T S E) (Q : List T → Type 0) (w o : Result S E) (us : List T) → Acts w us o (λ m. Front k m us o) → ((m : S) → Front k m us o → FrontThen k Q us) → Q [] → FrontThen k Q us
acts_then k Q (Ok m) o us h more q = more m h
acts_then k Q (Err e) o us h more q = subst (λ z. FrontThen k Q z) (sym h.0) (FrontThen-nil k Q q)

-- a front with any outcome of its actions
pub acting_then : {T S E : Type 0} (a : Rule T S E) (Q : List T → Type 0) (s : S) (ts : List T) (o : Result S E) → Front a s ts o → Q [] → FrontThen a Q ts
unfolding Front
acting_then none Q s ts o h q = subst (λ z. Q z) (sym h.0) q
acting_then (one p f k) Q s ts o h q = elim h [
  | inl g ↦ subst (λ z. FrontThen (one p f k) Q z) (sym g.0) tt
  | inr g ↦ subst (λ z. FrontThen (one p f k) Q z) (sym g.2) (g.3, acts_then (k g.0) Q (f g.0 s) o g.1 g.4 (λ m w. acting_then (k g.0) Q m g.1 o w q) q)
]
acting_then {T} {S} {E} (before p) Q s ts o h q = subst (λ z. FrontThen {S = S} {E = E} (before p) Q z) (sym h.0) tt
acting_then (seq a b) Q s ts o h q = elim h [
  | inl g ↦ acting_then a (FrontThen b Q) s ts o g (FrontThen-nil b Q q)
  | inr g ↦ taken_then a (FrontThen b Q) s g.1 ts g.0 g.2 (acting_then b Q g.1 g.0 o g.3 q)
]
acting_then (alt a b) Q s ts o h q = elim h [ inl g ↦ inl (acting_then a Q s ts o g q) | inr g ↦ inr (acting_then b Q s ts o g q) ]
acting_then {T} {S} {E} (many a) Q s ts o h q = go h.4 (λ g. acting_then a Q h.2 h.1 o g q)
  where
    go : (((h.1 ≡ []) × (o ≡ Ok h.2)) ⊎ Front a h.2 h.1 o) → (Front a h.2 h.1 o → FrontThen a Q h.1) → FrontThen (many a) Q ts
    go (inl e) more = (h.0, turns_then a Q (λ P s m ts us g p. taken_then a P s m ts us g p) h.0 s h.2 ts h.1 h.3 (subst (λ z. Q z) (sym e.0) q))
    go (inr g) more = (suc h.0, one_more (FrontThen a) Q h.0 ts (turns_then a (FrontThen a Q) (λ P s m ts us g p. taken_then a P s m ts us g p) h.0 s h.2 ts h.1 h.3 (more g)))
