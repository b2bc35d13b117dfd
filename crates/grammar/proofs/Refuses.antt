-- A front whose last action refuses makes the reader answer that refusal, whatever follows.
use Rattle.std.proofs.Common.{◌≡◌, ℕ, zero, suc, Bool, true, false, ◌||◌, ◌&&◌, cond, List, [], ◌∷◌, ◌++◌, Result, Ok, Err, ◌⊎◌, inl, inr, refl, sym, ap, subst, ◌∙◌, append_assoc}
use Rattle.grammar.specs.Rule.{Rule, none, one, before, seq, alt, many, Turns, Takes, Acts, Front}
use Rattle.grammar.specs.Reading.{Stop, refusal, nullable, short, begins, starts, ◌>>=◌, read, IsSimple}
use Rattle.grammar.proofs.Fronts.{or_left, or_right}
use Rattle.grammar.proofs.Cuts.{cuts, append_is_nil}
use Rattle.grammar.proofs.Stops.{many_turn}
use Rattle.grammar.proofs.Complete.{Begins, begins_as, leads, mutual_turns, complete}

-- the last token of the first list, and then the second
abbrev pub last_on : {T : Type 0} → List T → List T → List T
last_on [] more = more
last_on (t ∷ []) more = t ∷ more
last_on (t ∷ u ∷ us) more = last_on (u ∷ us) more

pub last_on-append : {T : Type 0} (xs : List T) (t : T) (us more : List T) → last_on (xs ++ t ∷ us) more ≡ last_on (t ∷ us) more
last_on-append [] t us more = refl
last_on-append (x ∷ []) t us more = refl
last_on-append (x ∷ y ∷ xs) t us more = last_on-append (y ∷ xs) t us more

starts_begins : {T S E : Type 0} (a : Rule T S E) (ts : List T) → starts a ts ≡ true → Begins (begins a) ts
starts_begins a [] h = tt
starts_begins a (t ∷ ts) h = h

begins_starts : {T S E : Type 0} (a : Rule T S E) (ts : List T) → Begins (begins a) ts → (ts ≡ [] → ⊥) → starts a ts ≡ true
begins_starts a [] h some = absurd (some refl)
begins_starts a (t ∷ ts) h some = h

-- what was taken before a list that isn't empty was taken of one that isn't
cut_some : {T S E : Type 0} (a b : Rule T S E) (s m : S) (ts us : List T) → Takes a s ts m us → starts b us ≡ true → ts ≡ [] → ⊥
cut_some a b s m ts us w h e =
    let c = cuts a s ts m us w in
    let nil : us ≡ [] = (append_is_nil c.us us (sym c.parts ∙ e)).1 in
    absurd (let no = subst (λ z. starts b z ≡ true) nil h in cc)

twice : (x : Bool) → (x || x) ≡ true → x ≡ true
twice true h = refl
twice false h = h

-- the first token, where items stand before a token that begins an item
items_start : {T S E : Type 0} (a : Rule T S E) (n : ℕ) (s m : S) (ts us : List T) → Turns (Takes a) n s ts m us → starts a us ≡ true → starts a ts ≡ true
unfolding Takes
items_start a n s m ts us w h =
    begins_starts a ts
    (begins_as (λ t. begins a t || begins a t) (begins a) (λ t e. twice (begins a t) e) ts
    (mutual_turns a (begins a) (λ F s m ts rest v q. leads a F s m ts rest v q) n s m ts us w (starts_begins a us h)))
    (cut_some (many a) a s m ts us (n, w) h)

either_way : (x y : Bool) → (x ≡ true) ⊎ (y ≡ true) → (x || y) ≡ true
either_way x y (inl h) = or_left x y h
either_way x y (inr h) = or_right x y h

alt_start : {T S E : Type 0} (a b : Rule T S E) (ts : List T) → (starts a ts ≡ true) ⊎ (starts b ts ≡ true) → starts (alt a b) ts ≡ true
alt_start a b [] h = elim h [ inl e ↦ e | inr e ↦ e ]
alt_start a b (t ∷ ts) h = either_way (begins a t) (begins b t) h

seq_start : {T S E : Type 0} (a b : Rule T S E) (ts : List T) → starts a ts ≡ true → starts (seq a b) ts ≡ true
seq_start a b [] h = h
seq_start a b (t ∷ ts) h = or_left (begins a t) (nullable a && begins b t) h

-- a front whose last action refuses begins with a token with which the rule begins
refusing_starts : {T S E : Type 0} (a : Rule T S E) (s : S) (ts : List T) (e : E) → Front a s ts (Err e) → starts a ts ≡ true
unfolding Front Takes
refusing_starts none s ts e h = absurd (let bad = h.1 in cc)
refusing_starts (one p f k) s ts e h = elim h [ inl g ↦ absurd (let bad = g.1 in cc) | inr g ↦ subst (λ z. starts (one p f k) z ≡ true) (sym g.2) g.3 ]
refusing_starts (before p) s ts e h = absurd (let bad = h.1 in cc)
refusing_starts (seq a b) s ts e h = elim h [
  | inl g ↦ seq_start a b ts (refusing_starts a s ts e g)
  | inr g ↦
      let start = refusing_starts b g.1 g.0 e g.3 in
      begins_starts (seq a b) ts (leads a (begins b) s g.1 ts g.0 g.2 (starts_begins b g.0 start)) (cut_some a b s g.1 ts g.0 g.2 start)
]
refusing_starts (alt a b) s ts e h = elim h [ inl g ↦ alt_start a b ts (inl (refusing_starts a s ts e g)) | inr g ↦ alt_start a b ts (inr (refusing_starts b s ts e g)) ]
refusing_starts {T} {S} {E} (many a) s ts e h = go h.4 (λ g. refusing_starts a h.2 h.1 e g)
  where
    go : (((h.1 ≡ []) × ((let o : Result S E = Err e in o) ≡ Ok h.2)) ⊎ Front a h.2 h.1 (Err e)) → (Front a h.2 h.1 (Err e) → starts a h.1 ≡ true) → starts (many a) ts ≡ true
    go (inl g) more = absurd (let bad = g.1 in cc)
    go (inr g) more = begins_starts (many a) ts (starts_begins a ts (items_start a h.0 s h.2 ts h.1 h.3 (more g))) (cut_some (many a) a s h.2 ts h.1 (h.0, h.3) (more g))

-- ---- reading to the refusal

-- what was taken before a list is taken before a longer one
takes_more : {T S E : Type 0} (a : Rule T S E) (s m : S) (ts : List T) (x : T) (zs more : List T) → Takes a s ts m (x ∷ zs) → Takes a s (ts ++ more) m (x ∷ (zs ++ more))
takes_more a s m ts x zs more w =
    let c = cuts a s ts m (x ∷ zs) w in
    subst (λ z. Takes a s z m (x ∷ (zs ++ more))) (sym (append_assoc c.us (x ∷ zs) more) ∙ ap (λ z. z ++ more) (sym c.parts)) (c.again x (zs ++ more) zs refl)

last_of : {T S E : Type 0} (a : Rule T S E) (s m : S) (ts : List T) (x : T) (zs more : List T) → Takes a s ts m (x ∷ zs) → last_on (x ∷ zs) more ≡ last_on ts more
last_of a s m ts x zs more w = let c = cuts a s ts m (x ∷ zs) w in sym (ap (λ z. last_on z more) c.parts ∙ last_on-append c.us x zs more)

seq_comes : {T S E : Type 0} (a b : Rule T S E) (next : T → Bool) → IsSimple a (λ t. begins b t || (nullable b && next t)) → (s m : S) (ts us more : List T) (e : E) → Takes a s ts m us → starts b us ≡ true
    → read b m (us ++ more) ≡ Err (refusal e (last_on us more)) → read (seq a b) s (ts ++ more) ≡ Err (refusal e (last_on ts more))
seq_comes a b next h s m ts [] more e w st g = absurd cc
seq_comes {T} {S} {E} a b next h s m ts (x ∷ zs) more e w st g =
    let first = complete a (λ t. begins b t || (nullable b && next t)) h s m (ts ++ more) (x ∷ (zs ++ more)) (takes_more a s m ts x zs more w) (or_left (begins b x) (nullable b && next x) st) in
    ap (λ z. z >>= λ x. read b x.0 x.1) first ∙ g ∙ ap (λ z. Err (refusal e z)) (last_of a s m ts x zs more w)

starts_longer : {T S E : Type 0} (a : Rule T S E) (ts more : List T) → starts a ts ≡ true → starts a (ts ++ more) ≡ true
starts_longer a [] more h = absurd cc
starts_longer a (t ∷ ts) more h = h

apart_starts : {T S E : Type 0} (a b : Rule T S E) (next : T → Bool) → ((t : T) → begins a t ≡ true → (begins b t || (nullable b && next t)) ≡ false) → (ts : List T) → starts b ts ≡ true → starts a ts ≡ false
apart_starts a b next h [] st = absurd cc
apart_starts a b next h (t ∷ ts) st = go (begins a t) (h t)
  where
    go : (g : Bool) → (g ≡ true → (begins b t || (nullable b && next t)) ≡ false) → g ≡ false
    go true k = absurd (let no = k refl in let yes = or_left (begins b t) (nullable b && next t) st in cc)
    go false k = refl

item_comes : {T S E : Type 0} (a : Rule T S E) (next : T → Bool) → IsSimple a (λ t. begins a t || next t) → short a ≡ false → (s m : S) (ts us more : List T) (e : E) → Takes a s ts m us → starts a us ≡ true → starts a ts ≡ true
    → read (many a) m (us ++ more) ≡ Err (refusal e (last_on us more)) → read (many a) s (ts ++ more) ≡ Err (refusal e (last_on ts more))
item_comes a next h sh s m ts [] more e w st st2 g = absurd cc
item_comes a next h sh s m ts (x ∷ zs) more e w st st2 g =
    let first = complete a (λ t. begins a t || next t) h s m (ts ++ more) (x ∷ (zs ++ more)) (takes_more a s m ts x zs more w) (or_left (begins a x) (next x) st) in
    many_turn a (λ t. begins a t || next t) h sh s (ts ++ more) (starts_longer a ts more st2)
    ∙ ap (λ z. z >>= λ x. read (many a) x.0 x.1) first ∙ g ∙ ap (λ z. Err (refusal e z)) (last_of a s m ts x zs more w)

many_comes : {T S E : Type 0} (a : Rule T S E) (next : T → Bool) → IsSimple a (λ t. begins a t || next t) → short a ≡ false
    → ((s : S) (ts more : List T) (e : E) → Front a s ts (Err e) → read a s (ts ++ more) ≡ Err (refusal e (last_on ts more)))
    → (n : ℕ) (s m : S) (ts us more : List T) (e : E) → Turns (Takes a) n s ts m us → Front a m us (Err e) → read (many a) s (ts ++ more) ≡ Err (refusal e (last_on ts more))
unfolding Turns
many_comes {T} {S} {E} a next h sh ih zero s m ts us more e w f =
    let g : Front a s ts (Err e) = subst (λ z. Front a s z (Err e)) (sym w.0) (subst (λ z. Front a z us (Err e)) (sym w.1) f) in
    many_turn a (λ t. begins a t || next t) h sh s (ts ++ more) (starts_longer a ts more (refusing_starts a s ts e g))
    ∙ ap (λ z. z >>= λ x. read (many a) x.0 x.1) (ih s ts more e g)
many_comes a next h sh ih (suc n) s m ts us more e w f =
    let start = items_start a n w.1 m w.0 us w.3 (refusing_starts a m us e f) in
    item_comes a next h sh s w.1 ts w.0 more e w.2 start (items_start a (suc n) s m ts us w (refusing_starts a m us e f)) (many_comes a next h sh ih n w.1 m w.0 us more e w.3 f)

one_comes : {T S E : Type 0} (p : T → Bool) (f : T → S → Result S E) (k : T → Rule T S E) (s : S) (x : T) (us more : List T) (e : E) (w : Result S E) → f x s ≡ w → p x ≡ true
    → Acts w us (Err e) (λ m. Front (k x) m us (Err e))
    → ((m : S) → Front (k x) m us (Err e) → (read (k x) m (us ++ more) ≡ Err (refusal e (last_on us more))) × (starts (k x) us ≡ true))
    → read (one p f k) s (x ∷ (us ++ more)) ≡ Err (refusal e (last_on (x ∷ us) more))
one_comes {T} {S} {E} p f k s x us more e (Ok m) fx px g ih =
    let both = ih m g in
    rw (px, fx) (both.0 ∙ ap (λ z. Err (refusal e z)) (tail_last (k x) us both.1))
  where
    tail_last : (b : Rule T S E) (us : List T) → starts b us ≡ true → last_on us more ≡ last_on (x ∷ us) more
    tail_last b [] st = absurd cc
    tail_last b (y ∷ ys) st = refl
one_comes {T} {S} {E} p f k s x us more e (Err other) fx px g ih =
    let o : E → Result S E = λ z. Err z in
    let same : o e ≡ o other = g.1 in
    let e_is : e ≡ other = cc in
    rw (px, fx) (subst (λ z. (let r : Result (S × List T) (Stop T E) = Err (refusal other (x ∷ (z ++ more))) in r) ≡ Err (refusal e (last_on (x ∷ z) more))) (sym g.0) (ap (λ z. Err (refusal z (x ∷ more))) (sym e_is)))

-- a front whose last action refuses makes the reader answer that refusal at its last token, whatever follows
pub comes : {T S E : Type 0} (a : Rule T S E) (next : T → Bool) → IsSimple a next → (s : S) (ts more : List T) (e : E) → Front a s ts (Err e) → read a s (ts ++ more) ≡ Err (refusal e (last_on ts more))
unfolding IsSimple Front
comes none next h s ts more e f = absurd (let bad = f.1 in cc)
comes {T} {S} {E} (one p f k) next h s ts more e g = elim g [
  | inl v ↦ absurd (let bad = v.1 in cc)
  | inr v ↦ subst (λ z. read (one p f k) s (z ++ more) ≡ Err (refusal e (last_on z more))) (sym v.2)
      (one_comes p f k s v.0 v.1 more e (f v.0 s) refl v.3 v.4 (λ m w. (comes (k v.0) next (h v.0 v.3) m v.1 more e w, refusing_starts (k v.0) m v.1 e w)))
]
comes (before p) next h s ts more e f = absurd (let bad = f.1 in cc)
comes (seq a b) next h s ts more e f = elim f [
  | inl g ↦ ap (λ z. z >>= λ x. read b x.0 x.1) (comes a (λ t. begins b t || (nullable b && next t)) h.0 s ts more e g)
  | inr g ↦ seq_comes a b next h.0 s g.1 ts g.0 more e g.2 (refusing_starts b g.1 g.0 e g.3) (comes b next h.1 g.1 g.0 more e g.3)
]
comes (alt a b) next h s ts more e f = elim f [
  | inl g ↦ ap (λ z. cond z (read a s (ts ++ more)) (read b s (ts ++ more))) (starts_longer a ts more (refusing_starts a s ts e g)) ∙ comes a next h.2 s ts more e g
  | inr g ↦ ap (λ z. cond z (read a s (ts ++ more)) (read b s (ts ++ more))) (apart_starts a b next h.1 (ts ++ more) (starts_longer b ts more (refusing_starts b s ts e g))) ∙ comes b next h.3 s ts more e g
]
comes {T} {S} {E} (many a) next h s ts more e f = go f.4 (λ g. many_comes a next h.3 h.1 (λ s ts more e g. comes a (λ t. begins a t || next t) h.3 s ts more e g) f.0 s f.2 ts f.1 more e f.3 g)
  where
    go : (((f.1 ≡ []) × ((let o : Result S E = Err e in o) ≡ Ok f.2)) ⊎ Front a f.2 f.1 (Err e)) → (Front a f.2 f.1 (Err e) → read (many a) s (ts ++ more) ≡ Err (refusal e (last_on ts more))) → read (many a) s (ts ++ more) ≡ Err (refusal e (last_on ts more))
    go (inl g) again = absurd (let bad = g.1 in cc)
    go (inr g) again = again g
