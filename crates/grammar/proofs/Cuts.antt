-- What a rule takes, cut off from what follows it.
use Rattle.std.proofs.Common.{◌≡◌, ℕ, zero, suc, Bool, true, false, ◌||◌, ◌&&◌, List, [], ◌∷◌, ◌++◌, Ok, ◌⊎◌, inl, inr, refl, sym, ap, subst, ◌∙◌, append_assoc}
use Rattle.std.proofs.lemmas.List.{append-nil}
use Rattle.grammar.specs.Rule.{Rule, none, one, before, seq, alt, many, Turns, Takes, Front}
use Rattle.grammar.specs.Reading.{short}

-- ---- helpers

pub append_is_nil : {T : Type 0} (us xs : List T) → us ++ xs ≡ [] → (us ≡ []) × (xs ≡ [])
append_is_nil [] xs e = (refl, e)
append_is_nil (u ∷ us) xs e = absurd cc

pub and_both : (p q : Bool) → p ≡ true → q ≡ true → (p && q) ≡ true
and_both true q e h = h
and_both false q e h = absurd cc

-- where a part was taken: it takes the same before any list that begins alike, and is a front by itself
pub record Cuts {T S E : Type 0} (a : Rule T S E) (s : S) (ts : List T) (m : S) (rest : List T) : Type 0 where
  pub us : List T
  pub parts : ts ≡ us ++ rest
  pub again : (x : T) (ys zs : List T) → rest ≡ x ∷ zs → Takes a s (us ++ x ∷ ys) m (x ∷ ys)
  pub state : S
  pub front : Front a s us (Ok state)
  pub full : short a ≡ false → us ≡ [] → ⊥

pub cons_head : {T : Type 0} (x y : T) (xs ys : List T) → x ∷ xs ≡ y ∷ ys → x ≡ y
cons_head x y xs ys e = cc

pub and_false_right : (p q : Bool) → (p && q) ≡ false → p ≡ true → q ≡ false
and_false_right true q h e = h
and_false_right false q h e = absurd cc

pub two : (p : Bool) → (p ≡ true) ⊎ (p ≡ false)
two true = inl refl
two false = inr refl

pub or_false_left : (p q : Bool) → (p || q) ≡ false → p ≡ false
or_false_left true q h = absurd cc
or_false_left false q h = refl

pub or_false_right : (p q : Bool) → (p || q) ≡ false → q ≡ false
or_false_right true q h = absurd cc
or_false_right false q h = h

-- what two parts one after the other need: the first before what the second took
pub join_again : {T S E : Type 0} (a : Rule T S E) (s m : S) (ts us rest : List T) (ca : Cuts a s ts m (us ++ rest)) (x : T) (ys zs : List T) → rest ≡ x ∷ zs → Takes a s (ca.us ++ (us ++ x ∷ ys)) m (us ++ x ∷ ys)
join_again a s m ts [] rest ca x ys zs e = ca.again x ys zs e
join_again a s m ts (u ∷ us) rest ca x ys zs e = ca.again u (us ++ x ∷ ys) (us ++ rest) refl

pub join_front : {T S E : Type 0} (a : Rule T S E) (s m : S) (ts us rest : List T) (ca : Cuts a s ts m (us ++ rest)) → (us ≡ []) ⊎ Takes a s (ca.us ++ us) m us
join_front a s m ts [] rest ca = inl refl
join_front a s m ts (u ∷ us) rest ca = inr (ca.again u us (us ++ rest) refl)

pub seq_cuts : {T S E : Type 0} (a b : Rule T S E) (s m t : S) (ts mid rest : List T) → Cuts a s ts m mid → Cuts b m mid t rest → Cuts (seq a b) s ts t rest
unfolding Takes Front
seq_cuts {T} {S} {E} a b s m t ts mid rest ca cb = go (subst (λ z. Cuts a s ts m z) cb.parts ca)
  where
    go : Cuts a s ts m (cb.us ++ rest) → Cuts (seq a b) s ts t rest
    go ca =
        let fr : (k : S) × Front (seq a b) s (ca.us ++ cb.us) (Ok k) = elim (join_front a s m ts cb.us rest ca) [
          | inl e ↦ (ca.state, inl (subst (λ z. Front a s z (Ok ca.state)) (sym (append-nil ca.us) ∙ ap (λ z. ca.us ++ z) (sym e)) ca.front))
          | inr w ↦ (cb.state, inr (cb.us, m, w, cb.front))
        ] in
        record {
          us = ca.us ++ cb.us;
          parts = ca.parts ∙ sym (append_assoc ca.us cb.us rest);
          again = λ x ys zs e. (cb.us ++ x ∷ ys, m, subst (λ z. Takes a s z m (cb.us ++ x ∷ ys)) (sym (append_assoc ca.us cb.us (x ∷ ys))) (join_again a s m ts cb.us rest ca x ys zs e), cb.again x ys zs e);
          state = fr.0;
          front = fr.1;
          full = λ h e. elim (two (short a)) [
            | inl is ↦ cb.full (and_false_right (short a) (short b) h is) (append_is_nil ca.us cb.us e).1
            | inr isnt ↦ ca.full isnt (append_is_nil ca.us cb.us e).0
          ];
        }

pub turns_cuts : {T S E : Type 0} (a : Rule T S E) → ((s : S) (ts : List T) (m : S) (rest : List T) → Takes a s ts m rest → Cuts a s ts m rest) → (n : ℕ) (s : S) (ts : List T) (m : S) (rest : List T) → Turns (Takes a) n s ts m rest → Cuts (many a) s ts m rest
unfolding Takes Front Turns
turns_cuts a ih zero s ts m rest h = record {
  us = [];
  parts = h.0;
  again = λ x ys zs e. (zero, (refl, h.1));
  state = s;
  front = (zero, [], s, (refl, refl), inl (refl, refl));
  full = λ h e. absurd cc;
}
turns_cuts {T} {S} {E} a ih (suc n) s ts m rest h = go (turns_cuts a ih n h.1 h.0 m rest h.3)
  where
    go : Cuts (many a) h.1 h.0 m rest → Cuts (many a) s ts m rest
    go cb =
        let ca : Cuts a s ts h.1 (cb.us ++ rest) = subst (λ z. Cuts a s ts h.1 z) cb.parts (ih s ts h.1 h.0 h.2) in
        let fr : (k : S) × Front (many a) s (ca.us ++ cb.us) (Ok k) = elim (join_front a s h.1 ts cb.us rest ca) [
          | inl e ↦ (ca.state, (zero, ca.us ++ cb.us, s, (refl, refl), inr (subst (λ z. Front a s z (Ok ca.state)) (sym (append-nil ca.us) ∙ ap (λ z. ca.us ++ z) (sym e)) ca.front)))
          | inr w ↦ (cb.state, (suc cb.front.0, cb.front.1, cb.front.2, (cb.us, h.1, w, cb.front.3), cb.front.4))
        ] in
        record {
          us = ca.us ++ cb.us;
          parts = ca.parts ∙ sym (append_assoc ca.us cb.us rest);
          again = λ x ys zs e. let more = cb.again x ys zs e in
              (suc more.0, (cb.us ++ x ∷ ys, h.1, subst (λ z. Takes a s z h.1 (cb.us ++ x ∷ ys)) (sym (append_assoc ca.us cb.us (x ∷ ys))) (join_again a s h.1 ts cb.us rest ca x ys zs e), more.1));
          state = fr.0;
          front = fr.1;
          full = λ h e. absurd cc;
        }

pub cuts : {T S E : Type 0} (a : Rule T S E) (s : S) (ts : List T) (m : S) (rest : List T) → Takes a s ts m rest → Cuts a s ts m rest
unfolding Takes Front
cuts none s ts m rest h = record { us = []; parts = h.0; again = λ x ys zs e. (refl, h.1); state = s; front = (refl, refl); full = λ h e. absurd cc }
cuts (one p f k) s ts m rest h =
    let c = cuts (k h.0) h.2 h.1 m rest h.6 in
    record {
      us = h.0 ∷ c.us;
      parts = h.3 ∙ ap (λ z. h.0 ∷ z) c.parts;
      again = λ x ys zs e. (h.0, c.us ++ x ∷ ys, h.2, refl, h.4, h.5, c.again x ys zs e);
      state = c.state;
      front = inr (h.0, c.us, refl, h.4, rw h.5 c.front);
      full = λ g e. absurd cc;
    }
cuts (before p) s ts m rest h = record {
  us = [];
  parts = h.4;
  again = λ x ys zs e. (x, ys, refl, subst (λ z. p z ≡ true) (cons_head h.0 x h.1 zs (sym h.2 ∙ e)) h.3, refl, h.5);
  state = s;
  front = (refl, refl);
  full = λ h e. absurd cc;
}
cuts (seq a b) s ts m rest h = seq_cuts a b s h.1 m ts h.0 rest (cuts a s ts h.1 h.0 h.2) (cuts b h.1 h.0 m rest h.3)
cuts {T} {S} {E} (alt a b) s ts m rest h = elim h [
  | inl g ↦ let c = cuts a s ts m rest g in record { us = c.us; parts = c.parts; again = λ x ys zs e. inl (c.again x ys zs e); state = c.state; front = inl c.front; full = λ n e. c.full (or_false_left (short a) (short b) n) e }
  | inr g ↦ let c = cuts b s ts m rest g in record { us = c.us; parts = c.parts; again = λ x ys zs e. inr (c.again x ys zs e); state = c.state; front = inr c.front; full = λ n e. c.full (or_false_right (short a) (short b) n) e }
]
cuts (many a) s ts m rest h = turns_cuts a (λ s ts m rest g. cuts a s ts m rest g) h.0 s ts m rest h.1
