-- Where a front's actions pass, a reader that goes over it meets no refusal.
use Rattle.std.proofs.Common.{◌≡◌, ℕ, zero, suc, Bool, true, false, ◌||◌, ◌&&◌, List, [], ◌∷◌, Result, Ok, Err, ◌⊎◌, inl, inr, refl, sym, ap, subst, ◌∙◌}
use Rattle.std.proofs.lemmas.List.{append-nil}
use Rattle.grammar.specs.Rule.{Rule, none, one, before, seq, alt, many, Turns, Takes, Acts, Front}
use Rattle.grammar.specs.Reading.{Stop, syntax, refusal, nullable, short, begins, ◌>>=◌, read, IsSimple}
use Rattle.grammar.proofs.Fronts.{FrontThen, FrontThen-head, Like}
use Rattle.grammar.proofs.Cuts.{cuts, append_is_nil}
use Rattle.grammar.proofs.Tells.{Tells, tells, Agrees}
use Rattle.grammar.proofs.Stops.{many_turn}
use Rattle.grammar.proofs.Complete.{complete, first_only, full_starts, no_start}
use Rattle.grammar.proofs.Prefix.{Nothing, acting_then}

pub like_nothing : {T : Type 0} (next : T → Bool) → Like next (Nothing {T = T})
like_nothing next = record { nil = refl; head = λ u us g. absurd cc }

agrees_self : {T : Type 0} (xs : List T) → Agrees xs xs
agrees_self [] = tt
agrees_self (x ∷ xs) = refl

nil_passes : {T S E : Type 0} (a : Rule T S E) (next : T → Bool) → IsSimple a next → (s : S) (e : E) (r : List T) → read a s [] ≡ Err (refusal e r) → ⊥
nil_passes {T} {S} {E} a next h s e r eq = go r (subst (λ z. Tells a next s [] z) eq (tells a next h s []))
  where
    go : (r : List T) → Tells a next s [] (Err (refusal e r)) → ⊥
    go [] ta = ta.shows
    go (t ∷ more) ta = absurd (let bad = (append_is_nil ta.us (t ∷ more) (sym ta.parts)).1 in cc)

-- a front is read to its end, where it is read
all_read : {T S E : Type 0} (a : Rule T S E) (next : T → Bool) → IsSimple a next → (s : S) (us : List T) → FrontThen a Nothing us → (x : S × List T) → read a s us ≡ Ok x → x.1 ≡ []
all_read {T} {S} {E} a next h s us f x eq = go (subst (λ z. Tells a next s us z) eq (tells a next h s us))
  where
    go : Tells a next s us (Ok x) → x.1 ≡ []
    go ta = ta.only Nothing (like_nothing next) x.1 (agrees_self x.1) (subst (λ z. FrontThen a Nothing z) ta.parts f)

abbrev Passes : {T S E : Type 0} → Rule T S E → S → List T → Type 0
Passes {T} {S} {E} a s us = (e : E) (r : List T) → read a s us ≡ Err (refusal e r) → ⊥

-- a front of the first part
first_passes : {T S E : Type 0} (a b : Rule T S E) (na nb : T → Bool) → IsSimple a na → IsSimple b nb → (s : S) (us : List T) → FrontThen a Nothing us → Passes a s us → Passes (seq a b) s us
first_passes {T} {S} {E} a b na nb ha hb s us f ih e r = go (read a s us) refl
  where
    go : (o : Result (S × List T) (Stop T E)) → read a s us ≡ o → (o >>= λ x. read b x.0 x.1) ≡ Err (refusal e r) → ⊥
    go (Ok x) eq h = nil_passes b nb hb x.0 e r (sym (ap (read b x.0) (all_read a na ha s us f x eq)) ∙ h)
    go (Err (syntax v)) eq h = absurd cc
    go (Err (refusal d v)) eq h = ih d v eq

seq_passes : {T S E : Type 0} (a b : Rule T S E) (next : T → Bool) → IsSimple a (λ t. begins b t || (nullable b && next t)) → IsSimple b next → (s m : S) (us vs : List T) → Takes a s us m vs → FrontThen b Nothing vs
    → ((k : S) → Front a s us (Ok k) → Passes a s us) → Passes b m vs → Passes (seq a b) s us
seq_passes a b next ha hb s m us [] w f ia ib e r eq =
    let c = cuts a s us m [] w in
    let same : c.us ≡ us = sym (c.parts ∙ append-nil c.us) in
    let front : Front a s us (Ok c.state) = subst (λ z. Front a s z (Ok c.state)) same c.front in
    first_passes a b (λ t. begins b t || (nullable b && next t)) next ha hb s us (acting_then a Nothing s us (Ok c.state) front refl) (ia c.state front) e r eq
seq_passes a b next ha hb s m us (x ∷ zs) w f ia ib e r h =
    let first = complete a (λ t. begins b t || (nullable b && next t)) ha s m us (x ∷ zs) w (FrontThen-head b next Nothing (like_nothing next) x zs f) in
    ib e r (sym (ap (λ z. z >>= λ x. read b x.0 x.1) first) ∙ h)

-- a front of one item
item_passes : {T S E : Type 0} (a : Rule T S E) (next : T → Bool) → nullable a ≡ false → short a ≡ false → IsSimple a (λ t. begins a t || next t) → (s : S) (us : List T) → FrontThen a Nothing us → Passes a s us → Passes (many a) s us
item_passes a next nu sh h s [] f ih e r eq = absurd cc
item_passes {T} {S} {E} a next nu sh h s (x ∷ zs) f ih e r eq =
    let start = first_only (begins a x) (nullable a) (begins a x || next x) nu (FrontThen-head a (λ t. begins a t || next t) Nothing (like_nothing (λ t. begins a t || next t)) x zs f) in
    go (read a s (x ∷ zs)) refl (sym (many_turn a (λ t. begins a t || next t) h sh s (x ∷ zs) start) ∙ eq)
  where
    go : (o : Result (S × List T) (Stop T E)) → read a s (x ∷ zs) ≡ o → (o >>= λ x. read (many a) x.0 x.1) ≡ Err (refusal e r) → ⊥
    go (Ok y) eq g = absurd (let nil : read (many a) y.0 y.1 ≡ Ok (y.0, []) = ap (read (many a) y.0) (all_read a (λ t. begins a t || next t) h s (x ∷ zs) f y eq) in cc)
    go (Err (syntax v)) eq g = absurd cc
    go (Err (refusal d v)) eq g = ih d v eq

true_and : (x z : Bool) → (x || (true && z)) ≡ true → (x || z) ≡ true
true_and true z h = refl
true_and false z h = h

turn_passes : {T S E : Type 0} (a : Rule T S E) (next : T → Bool) → nullable a ≡ false → short a ≡ false → IsSimple a (λ t. begins a t || next t) → (s m : S) (us vs : List T) → Takes a s us m vs → FrontThen (many a) Nothing vs
    → ((k : S) → Front a s us (Ok k) → Passes a s us) → Passes (many a) m vs → Passes (many a) s us
turn_passes a next nu sh h s m us [] w f ia ib e r eq =
    let c = cuts a s us m [] w in
    let same : c.us ≡ us = sym (c.parts ∙ append-nil c.us) in
    let front : Front a s us (Ok c.state) = subst (λ z. Front a s z (Ok c.state)) same c.front in
    item_passes a next nu sh h s us (acting_then a Nothing s us (Ok c.state) front refl) (ia c.state front) e r eq
turn_passes a next nu sh h s m us (x ∷ zs) w f ia ib e r eq =
    let follows = true_and (begins a x) (next x) (FrontThen-head (many a) next Nothing (like_nothing next) x zs f) in
    let first = complete a (λ t. begins a t || next t) h s m us (x ∷ zs) w follows in
    let start = full_starts a (λ t. begins a t || next t) s m us (x ∷ zs) nu w follows in
    ib e r (sym (many_turn a (λ t. begins a t || next t) h sh s us start ∙ ap (λ z. z >>= λ x. read (many a) x.0 x.1) first) ∙ eq)

many_passes : {T S E : Type 0} (a : Rule T S E) (next : T → Bool) → nullable a ≡ false → short a ≡ false → IsSimple a (λ t. begins a t || next t) → ((s k : S) (us : List T) → Front a s us (Ok k) → Passes a s us)
    → (n : ℕ) (s m k : S) (us vs : List T) → Turns (Takes a) n s us m vs → ((vs ≡ []) × ((let o : Result S E = Ok k in o) ≡ Ok m)) ⊎ Front a m vs (Ok k) → Passes (many a) s us
unfolding Turns Front
many_passes {T} {S} {E} a next nu sh h ih zero s m k us vs w (inl g) e r eq = absurd (let nil : read (many a) s us ≡ Ok (s, []) = ap (read (many a) s) (w.0 ∙ g.0) in cc)
many_passes {T} {S} {E} a next nu sh h ih zero s m k us vs w (inr g) e r eq =
    let front : Front a s us (Ok k) = subst (λ z. Front a s z (Ok k)) (sym w.0) (subst (λ z. Front a z vs (Ok k)) (sym w.1) g) in
    item_passes a next nu sh h s us (acting_then a Nothing s us (Ok k) front refl) (ih s k us front) e r eq
many_passes {T} {S} {E} a next nu sh h ih (suc n) s m k us vs w last e r eq =
    let front : Front (many a) w.1 w.0 (Ok k) = (n, vs, m, w.3, last) in
    turn_passes a next nu sh h s w.1 us w.0 w.2 (acting_then (many a) Nothing w.1 w.0 (Ok k) front refl) (λ j g. ih s j us g) (many_passes a next nu sh h ih n w.1 m k w.0 vs w.3 last) e r eq

one_passes : {T S E : Type 0} (p : T → Bool) (f : T → S → Result S E) (k : T → Rule T S E) (s : S) (x : T) (vs : List T) (st : S) (w : Result S E) → f x s ≡ w → p x ≡ true
    → Acts w vs (Ok st) (λ m. Front (k x) m vs (Ok st)) → ((m : S) → Front (k x) m vs (Ok st) → Passes (k x) m vs) → Passes (one p f k) s (x ∷ vs)
one_passes p f k s x vs st (Ok m) fx px g ih e r eq = ih m g e r (rw (px, fx) at eq)
one_passes {T} {S} {E} p f k s x vs st (Err d) fx px g ih e r eq = absurd (let bad : (let o : Result S E = Ok st in o) ≡ Err d = g.1 in cc)

alt_passes : {T S E : Type 0} (a b : Rule T S E) (next : T → Bool) → IsSimple (alt a b) next → (s : S) (us : List T) → (FrontThen a Nothing us × Passes a s us) ⊎ (FrontThen b Nothing us × Passes b s us) → Passes (alt a b) s us
unfolding IsSimple
alt_passes a b next h s [] g e r eq = nil_passes b next h.3 s e r eq
alt_passes a b next h s (x ∷ zs) (inl g) e r eq =
    let start = first_only (begins a x) (nullable a) (next x) h.0 (FrontThen-head a next Nothing (like_nothing next) x zs g.0) in
    g.1 e r (rw start at eq)
alt_passes a b next h s (x ∷ zs) (inr g) e r eq =
    let start = no_start (begins a x) (begins b x || (nullable b && next x)) (h.1 x) (FrontThen-head b next Nothing (like_nothing next) x zs g.0) in
    g.1 e r (rw start at eq)

pub front_passes : {T S E : Type 0} (a : Rule T S E) (next : T → Bool) → IsSimple a next → (s k : S) (us : List T) → Front a s us (Ok k) → Passes a s us
unfolding IsSimple Front
front_passes none next h s k us g = λ e r eq. absurd cc
front_passes {T} {S} {E} (one p f q) next h s k us g = elim g [
  | inl v ↦ subst (λ z. Passes (one p f q) s z) (sym v.0) (λ e r eq. absurd cc)
  | inr v ↦ subst (λ z. Passes (one p f q) s z) (sym v.2) (one_passes p f q s v.0 v.1 k (f v.0 s) refl v.3 v.4 (λ m w. front_passes (q v.0) next (h v.0 v.3) m k v.1 w))
]
front_passes {T} {S} {E} (before p) next h s k us g = subst (λ z. Passes {S = S} {E = E} (before p) s z) (sym g.0) (λ e r eq. absurd cc)
front_passes (seq a b) next h s k us g = elim g [
  | inl v ↦ first_passes a b (λ t. begins b t || (nullable b && next t)) next h.0 h.1 s us (acting_then a Nothing s us (Ok k) v refl) (front_passes a (λ t. begins b t || (nullable b && next t)) h.0 s k us v)
  | inr v ↦ seq_passes a b next h.0 h.1 s v.1 us v.0 v.2 (acting_then b Nothing v.1 v.0 (Ok k) v.3 refl) (λ j w. front_passes a (λ t. begins b t || (nullable b && next t)) h.0 s j us w) (front_passes b next h.1 v.1 k v.0 v.3)
]
front_passes (alt a b) next h s k us g = alt_passes a b next h s us (elim g [
  | inl v ↦ inl (acting_then a Nothing s us (Ok k) v refl, front_passes a next h.2 s k us v)
  | inr v ↦ inr (acting_then b Nothing s us (Ok k) v refl, front_passes b next h.3 s k us v)
])
front_passes (many a) next h s k us g = many_passes a next h.0 h.1 h.3 (λ s k us w. front_passes a (λ t. begins a t || next t) h.3 s k us w) g.0 s g.2 k us g.1 g.3 g.4
