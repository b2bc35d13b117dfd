-- A reader by a rule with one token of look-ahead stops at the first token with which the list is no front.
use Rattle.std.proofs.Common.{◌≡◌, ℕ, zero, suc, ◌≤◌, ◌<◌, Bool, true, false, cond, List, [], ◌∷◌, ◌++◌, length, Result, Ok, Err, ◌⊎◌, inl, inr, refl, sym, ap, subst, ◌∙◌, arith}
use Rattle.grammar.specs.Rule.{Rule, none, one, before, seq, alt, many, Takes, Front, Goes, IsTakes, IsFront, Whole, IsWhole}
use Rattle.grammar.specs.Reading.{Stop, syntax, refusal, short, starts, ◌>>=◌, repeat, read, IsSimple}
use Rattle.grammar.proofs.Fronts.{Times, FrontThen, Like, FrontThen-nil}
use Rattle.grammar.proofs.Tells.{Tells, starts-nil, shorter, tells}

-- ---- fronts by cases are fronts

pub goes_then : {T S E : Type 0} (a : Rule T S E) (Q : List T → Type 0) → ((P : List T → Type 0) (ts us : List T) → IsTakes a ts us → P us → FrontThen a P ts) → (n : ℕ) (ts us : List T) → Goes (IsTakes a) n ts us → Q us → Times n (FrontThen a) Q ts
unfolding Goes
goes_then a Q ih zero ts us h q = subst (λ z. Q z) (sym h) q
goes_then a Q ih (suc n) ts us h q = ih (Times n (FrontThen a) Q) ts h.0 h.1 (goes_then a Q ih n h.0 us h.2 q)

pub takes_then : {T S E : Type 0} (a : Rule T S E) (Q : List T → Type 0) (ts us : List T) → IsTakes a ts us → Q us → FrontThen a Q ts
unfolding IsTakes
takes_then none Q ts us h q = subst (λ z. Q z) (sym h) q
takes_then (one p f k) Q ts us h q = subst (λ z. FrontThen (one p f k) Q z) (sym h.2) (h.3, takes_then (k h.0) Q h.1 us h.4 q)
takes_then {T} {S} {E} (before p) Q ts us h q = subst (λ z. FrontThen {S = S} {E = E} (before p) Q z) (sym (h.4 ∙ h.2)) (h.3, subst (λ z. Q z) h.2 q)
takes_then (seq a b) Q ts us h q = takes_then a (FrontThen b Q) ts h.0 h.1 (takes_then b Q h.0 us h.2 q)
takes_then (alt a b) Q ts us h q = elim h [ inl g ↦ inl (takes_then a Q ts us g q) | inr g ↦ inr (takes_then b Q ts us g q) ]
takes_then (many a) Q ts us h q = (h.0, goes_then a Q (λ P xs ys g p. takes_then a P xs ys g p) h.0 ts us h.1 q)

pub times_swap : {T : Type 0} (f : (List T → Type 0) → List T → Type 0) (Q : List T → Type 0) (n : ℕ) → Times n f (f Q) ≡ f (Times n f Q)
times_swap f Q zero = refl
times_swap f Q (suc n) = ap f (times_swap f Q n)

pub one_more : {T : Type 0} (f : (List T → Type 0) → List T → Type 0) (Q : List T → Type 0) (n : ℕ) (ts : List T) → Times n f (f Q) ts → f (Times n f Q) ts
one_more f Q n ts h = subst (λ P. P ts) (times_swap f Q n) h

pub front_then : {T S E : Type 0} (a : Rule T S E) (Q : List T → Type 0) (ts : List T) → IsFront a ts → Q [] → FrontThen a Q ts
unfolding IsFront
front_then none Q ts h q = subst (λ z. Q z) (sym h) q
front_then (one p f k) Q ts h q =
    elim h [
      | inl e ↦ subst (λ z. FrontThen (one p f k) Q z) (sym e) tt
      | inr g ↦ subst (λ z. FrontThen (one p f k) Q z) (sym g.2) (g.3, front_then (k g.0) Q g.1 g.4 q)
    ]
front_then {T} {S} {E} (before p) Q ts h q = subst (λ z. FrontThen {S = S} {E = E} (before p) Q z) (sym h) tt
front_then (seq a b) Q ts h q =
    elim h [
      | inl g ↦ front_then a (FrontThen b Q) ts g (FrontThen-nil b Q q)
      | inr g ↦ takes_then a (FrontThen b Q) ts g.0 g.1 (front_then b Q g.0 g.2 q)
    ]
front_then (alt a b) Q ts h q = elim h [ inl g ↦ inl (front_then a Q ts g q) | inr g ↦ inr (front_then b Q ts g q) ]
front_then {T} (many a) Q ts h q = go h.3 (λ g. front_then a Q h.1 g q)
  where
    go : ((h.1 ≡ []) ⊎ IsFront a h.1) → (IsFront a h.1 → FrontThen a Q h.1) → FrontThen (many a) Q ts
    go (inl e) more = (h.0, goes_then a Q (λ P xs ys g p. takes_then a P xs ys g p) h.0 ts h.1 h.2 (subst (λ z. Q z) (sym e) q))
    go (inr g) more = (suc h.0, one_more (FrontThen a) Q h.0 ts (goes_then a (FrontThen a Q) (λ P xs ys g p. takes_then a P xs ys g p) h.0 ts h.1 h.2 (more g)))

-- ---- what a contract says

-- the place of a stop: what was read before it is a front, and with the next token it is none
pub stopped : {T S E : Type 0} (a : Rule T S E) → IsSimple a (λ t. false) → (s : S) (ts : List T) (t : T) (more : List T) → read a s ts ≡ Err (syntax (t ∷ more))
    → (us : List T) × (m : S) × (ts ≡ us ++ t ∷ more) × Front a s us (Ok m) × (IsFront a (us ++ t ∷ []) → ⊥) × (IsWhole a ts → ⊥)
unfolding IsWhole
stopped {T} {S} {E} a h s ts t more e = go (read a s ts) e (tells a (λ t. false) h s ts)
  where
    ends : Like (λ (u : T). false) (λ (xs : List T). xs ≡ [])
    ends = record { nil = refl; head = λ u us g. absurd cc }

    go : (o : Result (S × List T) (Stop T E)) → o ≡ Err (syntax (t ∷ more)) → Tells a (λ u. false) s ts o → (us : List T) × (m : S) × (ts ≡ us ++ t ∷ more) × Front a s us (Ok m) × (IsFront a (us ++ t ∷ []) → ⊥) × (IsWhole a ts → ⊥)
    go o e ta =
        let tb : Tells a (λ u. false) s ts (Err (syntax (t ∷ more))) = subst (λ z. Tells a (λ u. false) s ts z) e ta in (
          tb.us,
          tb.shows.0,
          tb.parts,
          tb.shows.1,
          λ f. absurd (let bad = tb.only (λ xs. xs ≡ []) ends (t ∷ []) refl (front_then a (λ xs. xs ≡ []) (tb.us ++ t ∷ []) f refl) in cc),
          λ w. absurd (let bad = tb.only (λ xs. xs ≡ []) ends (t ∷ more) refl (subst (λ z. FrontThen a (λ xs. xs ≡ []) z) tb.parts (takes_then a (λ xs. xs ≡ []) ts [] w refl)) in cc),
        )

pub refused : {T S E : Type 0} (a : Rule T S E) → IsSimple a (λ t. false) → (s : S) (ts : List T) (e : E) (rest : List T) → read a s ts ≡ Err (refusal e rest)
    → (us : List T) × (t : T) × (more : List T) × (rest ≡ t ∷ more) × (ts ≡ us ++ t ∷ more) × Front a s (us ++ t ∷ []) (Err e)
refused {T} {S} {E} a h s ts e rest eq = go (read a s ts) eq (tells a (λ t. false) h s ts)
  where
    cases : (r : List T) → Tells a (λ u. false) s ts (Err (refusal e r)) → (us : List T) × (t : T) × (more : List T) × (r ≡ t ∷ more) × (ts ≡ us ++ t ∷ more) × Front a s (us ++ t ∷ []) (Err e)
    cases [] ta = absurd ta.shows
    cases (t ∷ more) ta = (ta.us, t, more, refl, ta.parts, ta.shows)

    go : (o : Result (S × List T) (Stop T E)) → o ≡ Err (refusal e rest) → Tells a (λ u. false) s ts o → (us : List T) × (t : T) × (more : List T) × (rest ≡ t ∷ more) × (ts ≡ us ++ t ∷ more) × Front a s (us ++ t ∷ []) (Err e)
    go o eq ta = cases rest (subst (λ z. Tells a (λ u. false) s ts z) eq ta)

pub accepted : {T S E : Type 0} (a : Rule T S E) → IsSimple a (λ t. false) → (s : S) (ts : List T) (m : S) → read a s ts ≡ Ok (m, []) → Whole a s ts m
unfolding Whole
accepted {T} {S} {E} a h s ts m eq = go (read a s ts) eq (tells a (λ t. false) h s ts)
  where
    go : (o : Result (S × List T) (Stop T E)) → o ≡ Ok (m, []) → Tells a (λ u. false) s ts o → Takes a s ts m []
    go o eq ta =
        let tb : Tells a (λ u. false) s ts (Ok (m, [])) = subst (λ z. Tells a (λ u. false) s ts z) eq ta in
        tb.shows

-- ---- one turn of a repetition

pub repeat_same : {T S E : Type 0} (a : Rule T S E) (next : T → Bool) → short a ≡ false → ((s : S) (ts : List T) → Tells a next s ts (read a s ts))
    → (n k : ℕ) (s : S) (ts : List T) → length ts ≤ n → length ts ≤ k → repeat (starts a) (read a) n s ts ≡ repeat (starts a) (read a) k s ts
repeat_same a next nu ih zero zero s ts p q = refl
repeat_same a next nu ih zero (suc k) s ts p q = rw (starts-nil a ts p) refl
repeat_same a next nu ih (suc n) zero s ts p q = rw (starts-nil a ts q) refl
repeat_same {T} {S} {E} a next nu ih (suc n) (suc k) s ts p q = ap (λ z. cond (starts a ts) z (Ok (s, ts))) (go (repeat_same a next nu ih n k) (read a s ts) (ih s ts))
  where
    go : ((m : S) (vs : List T) → length vs ≤ n → length vs ≤ k → repeat (starts a) (read a) n m vs ≡ repeat (starts a) (read a) k m vs)
        → (o : Result (S × List T) (Stop T E)) → Tells a next s ts o → (o >>= λ x. repeat (starts a) (read a) n x.0 x.1) ≡ (o >>= λ x. repeat (starts a) (read a) k x.0 x.1)
    go again (Ok x) ta = let less : length x.1 < length ts = shorter a next s ts x nu ta in again x.0 x.1 (omega arith) (omega arith)
    go again (Err r) ta = refl

pub many_turn : {T S E : Type 0} (a : Rule T S E) (next : T → Bool) → IsSimple a next → short a ≡ false → (s : S) (ts : List T) → starts a ts ≡ true → read (many a) s ts ≡ (read a s ts >>= λ x. read (many a) x.0 x.1)
many_turn a next h nu s [] st = absurd cc
many_turn {T} {S} {E} a next h nu s (t ∷ ts) st = rw st (go (read a s (t ∷ ts)) (tells a next h s (t ∷ ts)))
  where
    go : (o : Result (S × List T) (Stop T E)) → Tells a next s (t ∷ ts) o → (o >>= λ x. repeat (starts a) (read a) (length ts) x.0 x.1) ≡ (o >>= λ x. read (many a) x.0 x.1)
    go (Ok x) ta = let less : length x.1 < length (t ∷ ts) = shorter a next s (t ∷ ts) x nu ta in repeat_same a next nu (λ m vs. tells a next h m vs) (length ts) (length x.1) x.0 x.1 (omega arith) (omega arith)
    go (Err r) ta = refl

pub many_end : {T S E : Type 0} (a : Rule T S E) (s : S) (ts : List T) → starts a ts ≡ false → read (many a) s ts ≡ Ok (s, ts)
many_end a s [] st = refl
many_end a s (t ∷ ts) st = rw st refl

-- what reads a part that is not empty leaves fewer tokens
pub consumes : {T S E : Type 0} (a : Rule T S E) (next : T → Bool) → IsSimple a next → short a ≡ false → (s m : S) (ts us : List T) → read a s ts ≡ Ok (m, us) → length us < length ts
consumes {T} {S} {E} a next h nu s m ts us e = shorter a next s ts (m, us) nu (subst (λ z. Tells a next s ts z) e (tells a next h s ts))
