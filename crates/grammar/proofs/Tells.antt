-- What a reader by a rule with one token of look-ahead tells of the list.
use Rattle.std.proofs.Common.{◌≡◌, ℕ, zero, suc, ◌≤◌, ◌<◌, Bool, true, false, ◌||◌, ◌&&◌, cond, List, [], ◌∷◌, ◌++◌, length, length-append, Result, Ok, Err, ◌⊎◌, inl, inr, refl, sym, ap, subst, ◌∙◌, append_assoc, arith}
use Rattle.std.proofs.lemmas.List.{append-nil, append_cancel_right}
use Rattle.grammar.specs.Rule.{Rule, none, one, before, seq, alt, many, Turns, Takes, Front}
use Rattle.grammar.specs.Reading.{Stop, syntax, refusal, nullable, short, begins, starts, ◌>>=◌, acting, repeat, read, IsSimple}
use Rattle.grammar.proofs.Fronts.{Times, FrontThen, Like, FrontThen-nil, Times-nil, Times-head, FrontThen-head}
use Rattle.grammar.proofs.Cuts.{append_is_nil, Cuts, cuts}

-- ---- what a reader tells

abbrev pub rest_of : {T S E : Type 0} → Result (S × List T) (Stop T E) → List T
rest_of (Ok x) = x.1
rest_of (Err (syntax r)) = r
rest_of (Err (refusal e r)) = r

-- the list begins as the rest does, or is empty
abbrev pub Agrees : {T : Type 0} → List T → List T → Type 0
Agrees [] rest = Unit {0}
Agrees (x ∷ xs) [] = ⊥
Agrees (x ∷ xs) (y ∷ ys) = x ≡ y

abbrev pub Shows : {T S E : Type 0} → Rule T S E → S → List T → List T → Result (S × List T) (Stop T E) → Type 0
Shows a s ts us (Ok x) = Takes a s ts x.0 x.1
Shows {T} {S} a s ts us (Err (syntax r)) = (m : S) × Front a s us (Ok m)
Shows a s ts us (Err (refusal e [])) = ⊥
Shows a s ts us (Err (refusal e (t ∷ r))) = Front a s (us ++ t ∷ []) (Err e)

abbrev pub After : {T S E : Type 0} → Result (S × List T) (Stop T E) → (List T → Type 0) → List T → Type 0
After (Ok x) Q xs = Q xs
After (Err (syntax r)) Q xs = xs ≡ []
After (Err (refusal e r)) Q xs = Unit {0}

pub record Tells {T S E : Type 0} (a : Rule T S E) (next : T → Bool) (s : S) (ts : List T) (o : Result (S × List T) (Stop T E)) : Type 1 where
  pub us : List T
  pub parts : ts ≡ us ++ rest_of o
  pub shows : Shows a s ts us o
  pub only : (Q : List T → Type 0) → Like next Q → (xs : List T) → Agrees xs (rest_of o) → FrontThen a Q (us ++ xs) → After o Q xs

pub agrees_more : {T : Type 0} (us xs rest : List T) → Agrees xs rest → Agrees (us ++ xs) (us ++ rest)
agrees_more [] xs rest h = h
agrees_more (u ∷ us) xs rest h = refl

pub agrees_along : {T : Type 0} (xs a b : List T) → a ≡ b → Agrees xs a → Agrees xs b
agrees_along xs a b e h = subst (λ z. Agrees xs z) e h

-- a list that begins as ts does, by its first token
pub cases_head : {T : Type 0} (ys ts : List T) → Agrees ys ts → (ys ≡ []) ⊎ ((t : T) × (us : List T) × (vs : List T) × (ys ≡ t ∷ us) × (ts ≡ t ∷ vs))
cases_head [] ts h = inl refl
cases_head (y ∷ ys) [] h = absurd h
cases_head (y ∷ ys) (t ∷ ts) h = inr (y, ys, ts, refl, ap (λ z. z ∷ ts) (sym h))

-- ---- what each kind of rule tells

pub after_nil : {T S E : Type 0} (o : Result (S × List T) (Stop T E)) (next : T → Bool) (Q : List T → Type 0) → Like next Q → (xs : List T) → xs ≡ [] → After o Q xs
after_nil (Ok x) next Q like xs e = subst (λ z. Q z) (sym e) like.nil
after_nil (Err (syntax r)) next Q like xs e = e
after_nil (Err (refusal e r)) next Q like xs h = tt

-- a rule that can't go on with the first token has only the empty list as a front
pub only_empty : {T S E : Type 0} (b : Rule T S E) (next : T → Bool) (Q : List T → Type 0) → Like next Q → (ts ys : List T) → Agrees ys ts
    → ((t : T) (vs : List T) → ts ≡ t ∷ vs → (begins b t || (nullable b && next t)) ≡ false) → FrontThen b Q ys → ys ≡ []
only_empty b next Q like ts ys ag bad h =
    elim (cases_head ys ts ag) [
      | inl e ↦ e
      | inr w ↦
          let yes : (begins b w.0 || (nullable b && next w.0)) ≡ true = FrontThen-head b next Q like w.0 w.1 (subst (λ z. FrontThen b Q z) w.3 h) in
          let no : (begins b w.0 || (nullable b && next w.0)) ≡ false = bad w.0 w.2 w.4 in
          absurd cc
    ]

pub none_tells : {T S E : Type 0} (next : T → Bool) (s : S) (ts : List T) → Tells {E = E} none next s ts (Ok (s, ts))
unfolding Takes
none_tells next s ts = record { us = []; parts = refl; shows = (refl, refl); only = λ Q like xs ag h. h }

pub one_ends : {T S E : Type 0} (p : T → Bool) (f : T → S → Result S E) (k : T → Rule T S E) (next : T → Bool) (s : S) → Tells (one p f k) next s [] (Err (syntax []))
unfolding Front
one_ends p f k next s = record { us = []; parts = refl; shows = (s, inl (refl, refl)); only = λ Q like. elim [ [] ↦ λ ag h. refl | x ∷ xs ↦ λ ag h. absurd ag ] }

pub one_shows : {T S E : Type 0} (p : T → Bool) (f : T → S → Result S E) (k : T → Rule T S E) (s : S) (t : T) (m : S) (ts us : List T) (o : Result (S × List T) (Stop T E)) → p t ≡ true → f t s ≡ Ok m → Shows (k t) m ts us o → Shows (one p f k) s (t ∷ ts) (t ∷ us) o
unfolding Takes Front
one_shows p f k s t m ts us (Ok x) pt ft h = (t, ts, m, refl, pt, ft, h)
one_shows p f k s t m ts us (Err (syntax r)) pt ft h = (h.0, inr (t, us, refl, pt, rw ft h.1))
one_shows p f k s t m ts us (Err (refusal e [])) pt ft h = h
one_shows p f k s t m ts us (Err (refusal e (x ∷ r))) pt ft h = inr (t, us ++ x ∷ [], refl, pt, rw ft h)

pub before_ends : {T S E : Type 0} (p : T → Bool) (next : T → Bool) (s : S) → Tells {E = E} (before p) next s [] (Err (syntax []))
unfolding Front
before_ends p next s = record { us = []; parts = refl; shows = (s, (refl, refl)); only = λ Q like. elim [ [] ↦ λ ag h. refl | x ∷ xs ↦ λ ag h. absurd ag ] }

pub before_tells : {T S E : Type 0} (p : T → Bool) (next : T → Bool) (s : S) (t : T) (ts : List T) (g : Bool) → p t ≡ g → Tells {E = E} (before p) next s (t ∷ ts) (cond g (Ok (s, t ∷ ts)) (Err (syntax (t ∷ ts))))
unfolding Takes Front
before_tells p next s t ts true pt = record { us = []; parts = refl; shows = (t, ts, refl, pt, refl, refl); only = λ Q like. elim [ [] ↦ λ ag h. like.nil | x ∷ xs ↦ λ ag h. h.1 ] }
before_tells p next s t ts false pt = record { us = []; parts = refl; shows = (s, (refl, refl)); only = λ Q like. elim [ [] ↦ λ ag h. refl | x ∷ xs ↦ λ ag h. absurd (let e : p t ≡ true = subst (λ z. p z ≡ true) ag h.0 in cc) ] }

pub one_tells : {T S E : Type 0} (p : T → Bool) (f : T → S → Result S E) (k : T → Rule T S E) (next : T → Bool) (s : S) (t : T) (ts : List T) (g : Bool) (w : Result S E) → p t ≡ g → f t s ≡ w
    → (p t ≡ true → (m : S) → Tells (k t) next m ts (read (k t) m ts))
    → Tells (one p f k) next s (t ∷ ts) (cond g (acting w (λ m. read (k t) m ts) (λ e. Err (refusal e (t ∷ ts)))) (Err (syntax (t ∷ ts))))
unfolding Front
one_tells p f k next s t ts true (Ok m) pt ft ih =
    let h = ih pt m in
    record {
      us = t ∷ h.us;
      parts = ap (λ z. t ∷ z) h.parts;
      shows = one_shows p f k s t m ts h.us (read (k t) m ts) pt ft h.shows;
      only = λ Q like xs ag g. h.only Q like xs ag g.1;
    }
one_tells p f k next s t ts true (Err e) pt ft ih = record { us = []; parts = refl; shows = inr (t, [], refl, pt, rw ft (refl, refl)); only = λ Q like xs ag g. tt }
one_tells p f k next s t ts false w pt ft ih =
    record { us = []; parts = refl; shows = (s, inl (refl, refl)); only = λ Q like. elim [ [] ↦ λ ag h. refl | x ∷ xs ↦ λ ag h. absurd (let e : p t ≡ true = subst (λ z. p z ≡ true) ag h.0 in cc) ] }

pub seq_like : {T S E : Type 0} (b : Rule T S E) (next : T → Bool) (Q : List T → Type 0) → Like next Q → Like (λ t. begins b t || (nullable b && next t)) (FrontThen b Q)
seq_like b next Q like = record { nil = FrontThen-nil b Q like.nil; head = λ t ts h. FrontThen-head b next Q like t ts h }

pub seq_shows : {T S E : Type 0} (a b : Rule T S E) (s m : S) (ts mid us : List T) (o : Result (S × List T) (Stop T E)) (ca : Cuts a s ts m mid) → Takes a s ts m mid → mid ≡ us ++ rest_of o → Shows b m mid us o → Shows (seq a b) s ts (ca.us ++ us) o
unfolding Takes Front
seq_shows a b s m ts mid us (Ok x) ca h e g = (mid, m, h, g)
seq_shows a b s m ts mid [] (Err (syntax r)) ca h e g = (ca.state, inl (subst (λ z. Front a s z (Ok ca.state)) (sym (append-nil ca.us)) ca.front))
seq_shows a b s m ts mid (u ∷ us) (Err (syntax r)) ca h e g = (g.0, inr (u ∷ us, m, ca.again u us (us ++ r) e, g.1))
seq_shows a b s m ts mid us (Err (refusal e0 [])) ca h e g = g
seq_shows a b s m ts mid [] (Err (refusal e0 (x ∷ r))) ca h e g = inr (x ∷ [], m, subst (λ z. Takes a s (z ++ x ∷ []) m (x ∷ [])) (sym (append-nil ca.us)) (ca.again x [] r e), g)
seq_shows a b s m ts mid (u ∷ us) (Err (refusal e0 (x ∷ r))) ca h e g =
    inr (u ∷ (us ++ x ∷ []), m, subst (λ z. Takes a s z m (u ∷ (us ++ x ∷ []))) (sym (append_assoc ca.us (u ∷ us) (x ∷ []))) (ca.again u (us ++ x ∷ []) (us ++ x ∷ r) e), g)

pub seq_tells : {T S E : Type 0} (a b : Rule T S E) (next : T → Bool) (s : S) (ts : List T) (o : Result (S × List T) (Stop T E)) → Tells a (λ t. begins b t || (nullable b && next t)) s ts o
    → ((m : S) (vs : List T) → Tells b next m vs (read b m vs)) → Tells (seq a b) next s ts (o >>= λ x. read b x.0 x.1)
unfolding Front
seq_tells a b next s ts (Ok x) ta ib =
    let tb = ib x.0 x.1 in
    record {
      us = ta.us ++ tb.us;
      parts = ta.parts ∙ ap (λ z. ta.us ++ z) tb.parts ∙ sym (append_assoc ta.us tb.us (rest_of (read b x.0 x.1)));
      shows = (let ca = cuts a s ts x.0 x.1 ta.shows in
          subst (λ z. Shows (seq a b) s ts (z ++ tb.us) (read b x.0 x.1)) (append_cancel_right ca.us ta.us x.1 (sym ca.parts ∙ ta.parts)) (seq_shows a b s x.0 ts x.1 tb.us (read b x.0 x.1) ca ta.shows tb.parts tb.shows));
      only = λ Q like xs ag h.
          let ag2 = agrees_along (tb.us ++ xs) (tb.us ++ rest_of (read b x.0 x.1)) x.1 (sym tb.parts) (agrees_more tb.us xs (rest_of (read b x.0 x.1)) ag) in
          let h2 = subst (λ z. FrontThen a (FrontThen b Q) z) (append_assoc ta.us tb.us xs) h in
          tb.only Q like xs ag (ta.only (FrontThen b Q) (seq_like b next Q like) (tb.us ++ xs) ag2 h2);
    }
seq_tells a b next s ts (Err (syntax r)) ta ib =
    record { us = ta.us; parts = ta.parts; shows = (ta.shows.0, inl ta.shows.1); only = λ Q like xs ag h. ta.only (FrontThen b Q) (seq_like b next Q like) xs ag h }
seq_tells a b next s ts (Err (refusal e [])) ta ib = absurd ta.shows
seq_tells a b next s ts (Err (refusal e (x ∷ r))) ta ib = record { us = ta.us; parts = ta.parts; shows = inl ta.shows; only = λ Q like xs ag h. tt }

pub alt_shows_left : {T S E : Type 0} (a b : Rule T S E) (s : S) (ts us : List T) (o : Result (S × List T) (Stop T E)) → Shows a s ts us o → Shows (alt a b) s ts us o
unfolding Takes Front
alt_shows_left a b s ts us (Ok x) h = inl h
alt_shows_left a b s ts us (Err (syntax r)) h = (h.0, inl h.1)
alt_shows_left a b s ts us (Err (refusal e [])) h = h
alt_shows_left a b s ts us (Err (refusal e (x ∷ r))) h = inl h

pub alt_shows_right : {T S E : Type 0} (a b : Rule T S E) (s : S) (ts us : List T) (o : Result (S × List T) (Stop T E)) → Shows b s ts us o → Shows (alt a b) s ts us o
unfolding Takes Front
alt_shows_right a b s ts us (Ok x) h = inr h
alt_shows_right a b s ts us (Err (syntax r)) h = (h.0, inr h.1)
alt_shows_right a b s ts us (Err (refusal e [])) h = h
alt_shows_right a b s ts us (Err (refusal e (x ∷ r))) h = inr h

pub not_both : (x p z : Bool) → x ≡ false → p ≡ false → (x || (p && z)) ≡ false
not_both true p z e h = absurd cc
not_both false true z e h = absurd cc
not_both false false z e h = refl

pub alt_tells : {T S E : Type 0} (a b : Rule T S E) (next : T → Bool) (s : S) (ts : List T) (g : Bool) (oa ob : Result (S × List T) (Stop T E)) → starts a ts ≡ g
    → nullable a ≡ false → ((t : T) → begins a t ≡ true → (begins b t || (nullable b && next t)) ≡ false)
    → Tells a next s ts oa → Tells b next s ts ob → Tells (alt a b) next s ts (cond g oa ob)
alt_tells a b next s ts true oa ob st nu apart ta tb = record {
  us = ta.us;
  parts = ta.parts;
  shows = alt_shows_left a b s ts ta.us oa ta.shows;
  only = λ Q like xs ag h. elim h [
    | inl g ↦ ta.only Q like xs ag g
    | inr g ↦
        let ag2 = agrees_along (ta.us ++ xs) (ta.us ++ rest_of oa) ts (sym ta.parts) (agrees_more ta.us xs (rest_of oa) ag) in
        let e = only_empty b next Q like ts (ta.us ++ xs) ag2 (λ t vs e. apart t (subst (λ z. starts a z ≡ true) e st)) g in
        after_nil oa next Q like xs (append_is_nil ta.us xs e).1
  ];
}
alt_tells a b next s ts false oa ob st nu apart ta tb = record {
  us = tb.us;
  parts = tb.parts;
  shows = alt_shows_right a b s ts tb.us ob tb.shows;
  only = λ Q like xs ag h. elim h [
    | inr g ↦ tb.only Q like xs ag g
    | inl g ↦
        let ag2 = agrees_along (tb.us ++ xs) (tb.us ++ rest_of ob) ts (sym tb.parts) (agrees_more tb.us xs (rest_of ob) ag) in
        let e = only_empty a next Q like ts (tb.us ++ xs) ag2 (λ t vs e. not_both (begins a t) (nullable a) (next t) (subst (λ z. starts a z ≡ false) e st) nu) g in
        after_nil ob next Q like xs (append_is_nil tb.us xs e).1
  ];
}

-- ---- repetition

pub turn_shows : {T S E : Type 0} (a : Rule T S E) (s m : S) (ts mid us : List T) (o : Result (S × List T) (Stop T E)) (ca : Cuts a s ts m mid) → Takes a s ts m mid → mid ≡ us ++ rest_of o → Shows (many a) m mid us o → Shows (many a) s ts (ca.us ++ us) o
unfolding Takes Front Turns
turn_shows a s m ts mid us (Ok x) ca h e g = (suc g.0, (mid, m, h, g.1))
turn_shows a s m ts mid [] (Err (syntax r)) ca h e g = (ca.state, (zero, ca.us ++ [], s, (refl, refl), inr (subst (λ z. Front a s z (Ok ca.state)) (sym (append-nil ca.us)) ca.front)))
turn_shows a s m ts mid (u ∷ us) (Err (syntax r)) ca h e g = (g.0, (suc g.1.0, g.1.1, g.1.2, (u ∷ us, m, ca.again u us (us ++ r) e, g.1.3), g.1.4))
turn_shows a s m ts mid us (Err (refusal e0 [])) ca h e g = g
turn_shows a s m ts mid [] (Err (refusal e0 (x ∷ r))) ca h e g =
    (suc g.0, g.1, g.2, (x ∷ [], m, subst (λ z. Takes a s (z ++ x ∷ []) m (x ∷ [])) (sym (append-nil ca.us)) (ca.again x [] r e), g.3), g.4)
turn_shows a s m ts mid (u ∷ us) (Err (refusal e0 (x ∷ r))) ca h e g =
    (suc g.0, g.1, g.2, (u ∷ (us ++ x ∷ []), m, subst (λ z. Takes a s z m (u ∷ (us ++ x ∷ []))) (sym (append_assoc ca.us (u ∷ us) (x ∷ []))) (ca.again u (us ++ x ∷ []) (us ++ x ∷ r) e), g.3), g.4)

pub item_shows : {T S E : Type 0} (a : Rule T S E) (s : S) (ts us : List T) (o : Stop T E) → Shows a s ts us (Err o) → Shows (many a) s ts us (Err o)
unfolding Front Turns
item_shows a s ts us (syntax r) h = (h.0, (zero, us, s, (refl, refl), inr h.1))
item_shows a s ts us (refusal e []) h = h
item_shows a s ts us (refusal e (x ∷ r)) h = (zero, us ++ x ∷ [], s, (refl, refl), inr h)

pub many_like : {T S E : Type 0} (a : Rule T S E) (next : T → Bool) (Q : List T → Type 0) → Like next Q → (n : ℕ) → Like (λ t. begins a t || next t) (Times n (FrontThen a) Q)
many_like a next Q like n = record { nil = Times-nil a Q like.nil n; head = λ t ts h. Times-head a next Q like (λ F P l u us g. FrontThen-head a F P l u us g) n t ts h }

pub starts-nil : {T S E : Type 0} (a : Rule T S E) (ts : List T) → length ts ≤ 0 → starts a ts ≡ false
starts-nil a [] h = refl
starts-nil a (t ∷ ts) h = absurd (omega arith)

-- at the end of the items
pub done_tells : {T S E : Type 0} (a : Rule T S E) (next : T → Bool) (s : S) (ts : List T) → nullable a ≡ false → starts a ts ≡ false → Tells (many a) next s ts (Ok (s, ts))
unfolding Takes Turns
done_tells {T} a next s ts nu st = record {
  us = [];
  parts = refl;
  shows = (zero, (refl, refl));
  only = λ Q like xs ag h. go Q like xs ag h.0 h.1;
}
  where
    go : (Q : List T → Type 0) → Like next Q → (xs : List T) → Agrees xs ts → (n : ℕ) → Times n (FrontThen a) Q xs → Q xs
    go Q like xs ag zero h = h
    go Q like xs ag (suc n) h =
        let e = only_empty a (λ t. begins a t || next t) (Times n (FrontThen a) Q) (many_like a next Q like n) ts xs ag (λ t vs e. not_both (begins a t) (nullable a) (begins a t || next t) (subst (λ z. starts a z ≡ false) e st) nu) h in
        subst (λ z. Q z) (sym e) like.nil

-- the list after an item is shorter
pub shorter : {T S E : Type 0} (a : Rule T S E) (next : T → Bool) (s : S) (ts : List T) (x : S × List T) → short a ≡ false → Tells a next s ts (Ok x) → length x.1 < length ts
shorter {T} {S} a next s ts x nu ta = let ca = cuts a s ts x.0 x.1 ta.shows in go ca.us ca.parts (ca.full nu)
  where
    go : (us : List T) → ts ≡ us ++ x.1 → (us ≡ [] → ⊥) → length x.1 < length ts
    go [] e h = absurd (h refl)
    go (u ∷ us) e h = omega (arith, ap length e, length-append us x.1)

pub after_err : {T E : Type 0} (S : Type 0) (r : Stop T E) (P Q : List T → Type 0) (xs : List T) → After {S = S} (Err r) P xs → After {S = S} (Err r) Q xs
after_err S (syntax r) P Q xs h = h
after_err S (refusal e r) P Q xs h = tt

pub item_tells : {T S E : Type 0} (a : Rule T S E) (next : T → Bool) (s : S) (ts : List T) (o : Result (S × List T) (Stop T E)) (n : ℕ) → nullable a ≡ false → short a ≡ false → ((t : T) → begins a t ≡ true → next t ≡ false) → starts a ts ≡ true → length ts ≤ suc n
    → Tells a (λ t. begins a t || next t) s ts o
    → ((m : S) (vs : List T) → length vs ≤ n → Tells (many a) next m vs (repeat (starts a) (read a) n m vs))
    → Tells (many a) next s ts (o >>= λ x. repeat (starts a) (read a) n x.0 x.1)
item_tells {T} {S} {E} a next s ts (Ok x) n nu sh apart st le ta ih =
    let less : length x.1 < length ts = shorter a (λ t. begins a t || next t) s ts x sh ta in
    let tb = ih x.0 x.1 (omega arith) in
    let ob = repeat (starts a) (read a) n x.0 x.1 in
    record {
      us = ta.us ++ tb.us;
      parts = ta.parts ∙ ap (λ z. ta.us ++ z) tb.parts ∙ sym (append_assoc ta.us tb.us (rest_of ob));
      shows = (let ca = cuts a s ts x.0 x.1 ta.shows in
          subst (λ z. Shows (many a) s ts (z ++ tb.us) ob) (append_cancel_right ca.us ta.us x.1 (sym ca.parts ∙ ta.parts)) (turn_shows a s x.0 ts x.1 tb.us ob ca ta.shows tb.parts tb.shows));
      only = λ Q like xs ag h.
          let ag2 = agrees_along (tb.us ++ xs) (tb.us ++ rest_of ob) x.1 (sym tb.parts) (agrees_more tb.us xs (rest_of ob) ag) in
          let ag3 = agrees_along (ta.us ++ (tb.us ++ xs)) (ta.us ++ x.1) ts (sym ta.parts) (agrees_more ta.us (tb.us ++ xs) x.1 ag2) in
          go ta tb Q like xs ag ag2 ag3 h.0 (subst (λ z. Times h.0 (FrontThen a) Q z) (append_assoc ta.us tb.us xs) h.1);
    }
  where
    go : (ta : Tells a (λ t. begins a t || next t) s ts (Ok x)) (tb : Tells (many a) next x.0 x.1 (repeat (starts a) (read a) n x.0 x.1))
        (Q : List T → Type 0) → Like next Q → (xs : List T) → Agrees xs (rest_of (repeat (starts a) (read a) n x.0 x.1)) → Agrees (tb.us ++ xs) x.1 → Agrees (ta.us ++ (tb.us ++ xs)) ts
        → (k : ℕ) → Times k (FrontThen a) Q (ta.us ++ (tb.us ++ xs)) → After (repeat (starts a) (read a) n x.0 x.1) Q xs
    go ta tb Q like xs ag ag2 ag3 zero h =
        let e : ta.us ++ (tb.us ++ xs) ≡ [] = only_empty {S = S} {E = E} none next Q like ts (ta.us ++ (tb.us ++ xs)) ag3 (λ t vs e. apart t (subst (λ z. starts a z ≡ true) e st)) h in
        after_nil (repeat (starts a) (read a) n x.0 x.1) next Q like xs (append_is_nil tb.us xs (append_is_nil ta.us (tb.us ++ xs) e).1).1
    go ta tb Q like xs ag ag2 ag3 (suc k) h = tb.only Q like xs ag (k, ta.only (Times k (FrontThen a) Q) (many_like a next Q like k) (tb.us ++ xs) ag2 h)
item_tells {T} {S} {E} a next s ts (Err r) n nu sh apart st le ta ih = record {
  us = ta.us;
  parts = ta.parts;
  shows = item_shows a s ts ta.us r ta.shows;
  only = λ Q like xs ag h. go ta Q like xs ag (agrees_along (ta.us ++ xs) (ta.us ++ rest_of {S = S} (Err r)) ts (sym ta.parts) (agrees_more ta.us xs (rest_of {S = S} (Err r)) ag)) h.0 h.1;
}
  where
    go : (ta : Tells a (λ t. begins a t || next t) s ts (Err r)) (Q : List T → Type 0) → Like next Q → (xs : List T) → Agrees xs (rest_of {S = S} (Err r)) → Agrees (ta.us ++ xs) ts → (k : ℕ) → Times k (FrontThen a) Q (ta.us ++ xs) → After {S = S} (Err r) Q xs
    go ta Q like xs ag ag2 zero h =
        let e : ta.us ++ xs ≡ [] = only_empty {S = S} {E = E} none next Q like ts (ta.us ++ xs) ag2 (λ t vs e. apart t (subst (λ z. starts a z ≡ true) e st)) h in
        after_nil {S = S} (Err r) next Q like xs (append_is_nil ta.us xs e).1
    go ta Q like xs ag ag2 (suc k) h = after_err S r (Times k (FrontThen a) Q) Q xs (ta.only (Times k (FrontThen a) Q) (many_like a next Q like k) xs ag h)

pub many_tells : {T S E : Type 0} (a : Rule T S E) (next : T → Bool) → nullable a ≡ false → short a ≡ false → ((t : T) → begins a t ≡ true → next t ≡ false) → ((s : S) (ts : List T) → Tells a (λ t. begins a t || next t) s ts (read a s ts))
    → (n : ℕ) (s : S) (ts : List T) → length ts ≤ n → Tells (many a) next s ts (repeat (starts a) (read a) n s ts)
many_tells a next nu sh apart ih zero s ts le = done_tells a next s ts nu (starts-nil a ts le)
many_tells {T} {S} {E} a next nu sh apart ih (suc n) s ts le = go (many_tells a next nu sh apart ih n) (starts a ts) refl
  where
    go : ((m : S) (vs : List T) → length vs ≤ n → Tells (many a) next m vs (repeat (starts a) (read a) n m vs)) → (g : Bool) → starts a ts ≡ g → Tells (many a) next s ts (cond g (read a s ts >>= λ x. repeat (starts a) (read a) n x.0 x.1) (Ok (s, ts)))
    go again true e = item_tells a next s ts (read a s ts) n nu sh apart e le (ih s ts) again
    go again false e = done_tells a next s ts nu e

-- what reading by a simple rule tells of the list
pub tells : {T S E : Type 0} (a : Rule T S E) (next : T → Bool) → IsSimple a next → (s : S) (ts : List T) → Tells a next s ts (read a s ts)
unfolding IsSimple
tells none next h s ts = none_tells next s ts
tells (one p f k) next h s [] = one_ends p f k next s
tells (one p f k) next h s (t ∷ ts) = one_tells p f k next s t ts (p t) (f t s) refl refl (λ e m. tells (k t) next (h t e) m ts)
tells (before p) next h s [] = before_ends p next s
tells (before p) next h s (t ∷ ts) = before_tells p next s t ts (p t) refl
tells (seq a b) next h s ts = seq_tells a b next s ts (read a s ts) (tells a (λ t. begins b t || (nullable b && next t)) h.0 s ts) (λ m vs. tells b next h.1 m vs)
tells (alt a b) next h s ts = alt_tells a b next s ts (starts a ts) (read a s ts) (read b s ts) refl h.0 h.1 (tells a next h.2 s ts) (tells b next h.3 s ts)
tells (many a) next h s ts = many_tells a next h.0 h.1 h.2 (λ m vs. tells a (λ t. begins a t || next t) h.3 m vs) (length ts) s ts (omega arith)
