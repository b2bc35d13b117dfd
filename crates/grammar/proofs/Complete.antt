-- What is whole is read, and so a list is whole with one state at most.
use Rattle.std.proofs.Common.{◌≡◌, ℕ, zero, suc, Bool, true, false, ◌||◌, ◌&&◌, cond, List, [], ◌∷◌, Ok, inl, inr, refl, sym, ap, subst, ◌∙◌}
use Rattle.grammar.specs.Rule.{Rule, none, one, before, seq, alt, many, Turns, Takes, Whole}
use Rattle.grammar.specs.Reading.{nullable, short, begins, starts, ◌>>=◌, read, IsSimple}
use Rattle.grammar.proofs.Fronts.{or_left, or_right, distribute, either_first, either_second, more_first}
use Rattle.grammar.proofs.Cuts.{cuts, append_is_nil}
use Rattle.grammar.proofs.Stops.{many_turn, many_end}

-- the list is empty, or begins with a token of next
abbrev pub Begins : {T : Type 0} → (T → Bool) → List T → Type 0
Begins next [] = Unit {0}
Begins next (t ∷ ts) = next t ≡ true

pub begins_as : {T : Type 0} (p q : T → Bool) → ((t : T) → p t ≡ true → q t ≡ true) → (ts : List T) → Begins p ts → Begins q ts
begins_as p q h [] b = tt
begins_as p q h (t ∷ ts) b = h t b

pub true_and : (x z : Bool) → z ≡ true → (x || (true && z)) ≡ true
true_and true z e = refl
true_and false z e = e

pub mutual_turns : {T S E : Type 0} (a : Rule T S E) (next : T → Bool)
    → ((F : T → Bool) (s m : S) (ts rest : List T) → Takes a s ts m rest → Begins F rest → Begins (λ t. begins a t || (nullable a && F t)) ts)
    → (n : ℕ) (s m : S) (ts rest : List T) → Turns (Takes a) n s ts m rest → Begins next rest → Begins (λ t. begins a t || next t) ts
unfolding Turns
mutual_turns a next ih zero s m ts rest h b = subst (λ z. Begins (λ t. begins a t || next t) z) (sym h.0) (begins_as next (λ t. begins a t || next t) (λ t e. or_right (begins a t) (next t) e) rest b)
mutual_turns a next ih (suc n) s m ts rest h b =
    begins_as (λ t. begins a t || (nullable a && (begins a t || next t))) (λ t. begins a t || next t) (λ t e. more_first (begins a t) (nullable a) (next t) e) ts
    (ih (λ t. begins a t || next t) s h.1 ts h.0 h.2 (mutual_turns a next ih n h.1 m h.0 rest h.3 b))

-- with what a list begins that begins with a whole rule
pub leads : {T S E : Type 0} (a : Rule T S E) (next : T → Bool) (s m : S) (ts rest : List T) → Takes a s ts m rest → Begins next rest → Begins (λ t. begins a t || (nullable a && next t)) ts
unfolding Takes
leads none next s m ts rest h b = subst (λ z. Begins next z) (sym h.0) b
leads (one p f k) next s m ts rest h b = subst (λ z. Begins (λ t. p t || (false && next t)) z) (sym h.3) (or_left (p h.0) false h.4)
leads (before p) next s m ts rest h b = subst (λ z. Begins (λ t. p t || (false && next t)) z) (sym (h.4 ∙ h.2)) (or_left (p h.0) false h.3)
leads (seq a b) next s m ts rest h g =
    begins_as (λ t. begins a t || (nullable a && (begins b t || (nullable b && next t)))) (λ t. begins (seq a b) t || (nullable (seq a b) && next t)) (λ t e. distribute (begins a t) (begins b t) (next t) (nullable a) (nullable b) e) ts
    (leads a (λ t. begins b t || (nullable b && next t)) s h.1 ts h.0 h.2 (leads b next h.1 m h.0 rest h.3 g))
leads (alt a b) next s m ts rest h g = elim h [
  | inl v ↦ begins_as (λ t. begins a t || (nullable a && next t)) (λ t. begins (alt a b) t || (nullable (alt a b) && next t)) (λ t e. either_first (begins a t) (begins b t) (nullable a) (nullable b) (next t) e) ts (leads a next s m ts rest v g)
  | inr v ↦ begins_as (λ t. begins b t || (nullable b && next t)) (λ t. begins (alt a b) t || (nullable (alt a b) && next t)) (λ t e. either_second (begins a t) (begins b t) (nullable a) (nullable b) (next t) e) ts (leads b next s m ts rest v g)
]
leads (many a) next s m ts rest h g = mutual_turns a next (λ F s m ts rest v q. leads a F s m ts rest v q) h.0 s m ts rest h.1 g

-- the empty list is whole of nullable rules alone
pub takes_nil : {T S E : Type 0} (a : Rule T S E) (s m : S) (rest : List T) → Takes a s [] m rest → nullable a ≡ true
unfolding Takes
takes_nil none s m rest h = refl
takes_nil (one p f k) s m rest h = absurd (let e = h.3 in cc)
takes_nil (before p) s m rest h = absurd (let e = h.4 ∙ h.2 in cc)
takes_nil (seq a b) s m rest h =
    let c = cuts a s [] h.1 h.0 h.2 in
    let none_left = (append_is_nil c.us h.0 (sym c.parts)).1 in
    go (nullable a) (nullable b) (takes_nil a s h.1 h.0 h.2) (takes_nil b h.1 m rest (subst (λ z. Takes b h.1 z m rest) none_left h.3))
  where
    go : (x y : Bool) → x ≡ true → y ≡ true → (x && y) ≡ true
    go true y e g = g
    go false y e g = absurd cc
takes_nil (alt a b) s m rest h = elim h [ inl g ↦ or_left (nullable a) (nullable b) (takes_nil a s m rest g) | inr g ↦ or_right (nullable a) (nullable b) (takes_nil b s m rest g) ]
takes_nil (many a) s m rest h = refl

pub first_only : (x p z : Bool) → p ≡ false → (x || (p && z)) ≡ true → x ≡ true
first_only true p z e h = refl
first_only false true z e h = absurd cc
first_only false false z e h = h

pub full_starts : {T S E : Type 0} (a : Rule T S E) (next : T → Bool) (s m : S) (ts rest : List T) → nullable a ≡ false → Takes a s ts m rest → Begins next rest → starts a ts ≡ true
full_starts a next s m [] rest nu w b = absurd (let e = takes_nil a s m rest w in cc)
full_starts a next s m (t ∷ ts) rest nu w b = first_only (begins a t) (nullable a) (next t) nu (leads a next s m (t ∷ ts) rest w b)

pub no_start : (x y : Bool) → (x ≡ true → y ≡ false) → y ≡ true → x ≡ false
no_start true y h g = absurd (let e = h refl in cc)
no_start false y h g = refl

pub starts_not : {T S E : Type 0} (a : Rule T S E) (next : T → Bool) (ts : List T) → ((t : T) → begins a t ≡ true → next t ≡ false) → Begins next ts → starts a ts ≡ false
starts_not a next [] apart h = refl
starts_not a next (t ∷ ts) apart h = no_start (begins a t) (next t) (apart t) h

pub turns_complete : {T S E : Type 0} (a : Rule T S E) (next : T → Bool) → nullable a ≡ false → short a ≡ false → ((t : T) → begins a t ≡ true → next t ≡ false) → IsSimple a (λ t. begins a t || next t)
    → ((s m : S) (ts rest : List T) → Takes a s ts m rest → Begins (λ t. begins a t || next t) rest → read a s ts ≡ Ok (m, rest))
    → (n : ℕ) (s m : S) (ts rest : List T) → Turns (Takes a) n s ts m rest → Begins next rest → read (many a) s ts ≡ Ok (m, rest)
unfolding Turns
turns_complete a next nu sh apart h ih zero s m ts rest p b =
    subst (λ z. read (many a) s z ≡ Ok (m, rest)) (sym p.0) (subst (λ z. read (many a) s rest ≡ Ok (z, rest)) p.1 (many_end a s rest (starts_not a next rest apart b)))
turns_complete a next nu sh apart h ih (suc n) s m ts rest p b =
    let lead = mutual_turns a next (λ F s m ts rest v q. leads a F s m ts rest v q) n p.1 m p.0 rest p.3 b in
    let first = ih s p.1 ts p.0 p.2 lead in
    many_turn a (λ t. begins a t || next t) h sh s ts (full_starts a (λ t. begins a t || next t) s p.1 ts p.0 nu p.2 lead)
    ∙ ap (λ z. z >>= λ x. read (many a) x.0 x.1) first ∙ turns_complete a next nu sh apart h ih n p.1 m p.0 rest p.3 b

-- what is whole is read, if what follows it may
pub complete : {T S E : Type 0} (a : Rule T S E) (next : T → Bool) → IsSimple a next → (s m : S) (ts rest : List T) → Takes a s ts m rest → Begins next rest → read a s ts ≡ Ok (m, rest)
unfolding IsSimple Takes
complete {T} {S} {E} none next h s m ts rest w b = subst (λ z. read {E = E} none s z ≡ Ok (m, rest)) (sym w.0) (subst (λ z. read {E = E} none s rest ≡ Ok (z, rest)) w.1 refl)
complete (one p f k) next h s m ts rest w b = subst (λ z. read (one p f k) s z ≡ Ok (m, rest)) (sym w.3) (rw (w.4, w.5) (complete (k w.0) next (h w.0 w.4) w.2 m w.1 rest w.6 b))
complete {T} {S} {E} (before p) next h s m ts rest w b =
    subst (λ z. read {S = S} {E = E} (before p) s z ≡ Ok (m, rest)) (sym (w.4 ∙ w.2)) (rw (w.3, w.2, w.5) refl)
complete (seq a b) next h s m ts rest w g =
    let first = complete a (λ t. begins b t || (nullable b && next t)) h.0 s w.1 ts w.0 w.2 (leads b next w.1 m w.0 rest w.3 g) in
    ap (λ z. z >>= λ x. read b x.0 x.1) first ∙ complete b next h.1 w.1 m w.0 rest w.3 g
complete (alt a b) next h s m ts rest w g =
    elim w [
      | inl v ↦ ap (λ z. cond z (read a s ts) (read b s ts)) (full_starts a next s m ts rest h.0 v g) ∙ complete a next h.2 s m ts rest v g
      | inr v ↦ ap (λ z. cond z (read a s ts) (read b s ts)) (starts_not a (λ t. begins b t || (nullable b && next t)) ts h.1 (leads b next s m ts rest v g)) ∙ complete b next h.3 s m ts rest v g
    ]
complete (many a) next h s m ts rest w g = turns_complete a next h.0 h.1 h.2 h.3 (λ x y xs r v q. complete a (λ t. begins a t || next t) h.3 x y xs r v q) w.0 s m ts rest w.1 g

-- a list has one value at most, and it is what is read
pub only : {T S E : Type 0} (a : Rule T S E) → IsSimple a (λ t. false) → (s m : S) (ts : List T) → Whole a s ts m → read a s ts ≡ Ok (m, [])
unfolding Whole
only a h s m ts w = complete a (λ t. false) h s m ts [] w tt
