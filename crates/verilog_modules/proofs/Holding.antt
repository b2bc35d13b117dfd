-- What holds of the state before a rule and after it, and what is known of a refusal of the rule.
use Rattle.std.proofs.Common.{◌≡◌, ℕ, zero, suc, Bool, true, List, [], Result, Ok, Err, ◌⊎◌, inl, inr, refl, subst}
use Rattle.grammar.specs.Rule.{Rule, none, one, before, seq, alt, many, Takes, Turns, Front, Acts}

-- where P holds before the rule, Q holds behind it, and R of a refusal on the way
pub record Keeps {T S E : Type 0} (R : E → Type 0) (P : S → Type 0) (a : Rule T S E) (Q : S → Type 0) : Type 0 where
  pub takes : (s : S) (ts : List T) (t : S) (rest : List T) → P s → Takes a s ts t rest → Q t
  pub halts : (s : S) (ts : List T) (e : E) → P s → Front a s ts (Err e) → R e

module _ {T S E : Type 0} (R : E → Type 0) where
  none_takes : (P : S → Type 0) (s : S) (ts : List T) (t : S) (rest : List T) → P s → Takes {E = E} none s ts t rest → P t
  unfolding Takes
  none_takes P s ts t rest h k = subst P k.1 h

  none_halts : (s : S) (ts : List T) (e : E) → Front none s ts (Err e) → R e
  unfolding Front
  none_halts s ts e k = absurd (let f = k.1 in cc)

  pub keeps_none : (P : S → Type 0) → Keeps {T = T} R P none P
  keeps_none P = record { takes = none_takes P; halts = λ s ts e h k. none_halts s ts e k }

  before_takes : (P : S → Type 0) (p : T → Bool) (s : S) (ts : List T) (t : S) (rest : List T) → P s → Takes {E = E} (before p) s ts t rest → P t
  unfolding Takes
  before_takes P p s ts t rest h k = subst P k.5 h

  before_halts : (p : T → Bool) (s : S) (ts : List T) (e : E) → Front (before p) s ts (Err e) → R e
  unfolding Front
  before_halts p s ts e k = absurd (let f = k.1 in cc)

  pub keeps_before : (P : S → Type 0) (p : T → Bool) → Keeps R P (before p) P
  keeps_before P p = record { takes = before_takes P p; halts = λ s ts e h k. before_halts p s ts e k }

  module _ (P Q W : S → Type 0) (p : T → Bool) (f : T → S → Result S E) (next : T → Rule T S E)
      (act : (x : T) (s m : S) → p x ≡ true → P s → f x s ≡ Ok m → Q m)
      (refuse : (x : T) (s : S) (e : E) → p x ≡ true → P s → f x s ≡ Err e → R e)
      (after : (x : T) → p x ≡ true → Keeps R Q (next x) W) where
    one_takes : (s : S) (ts : List T) (t : S) (rest : List T) → P s → Takes (one p f next) s ts t rest → W t
    unfolding Takes
    one_takes s ts t rest h k = (after k.0 k.4).takes k.2 k.1 t rest (act k.0 s k.2 k.4 h k.5) k.6

    acts_halt : (x : T) (us : List T) (s : S) (e : E) (r : Result S E) → p x ≡ true → P s → f x s ≡ r → Acts r us (Err e) (λ m. Front (next x) m us (Err e)) → R e
    acts_halt x us s e (Ok m) k h is acts = (after x k).halts m us e (act x s m k h is) acts
    acts_halt x us s e (Err d) k h is acts = let same : d ≡ e = (let f = acts.1 in cc) in subst R same (refuse x s d k h is)

    one_halts : (s : S) (ts : List T) (e : E) → P s → Front (one p f next) s ts (Err e) → R e
    unfolding Front
    one_halts s ts e h (inl k) = absurd (let g = k.1 in cc)
    one_halts s ts e h (inr k) = acts_halt k.0 k.1 s e (f k.0 s) k.3 h refl k.4

    pub keeps_one : Keeps R P (one p f next) W
    keeps_one = record { takes = one_takes; halts = one_halts }

  module _ (P Q W : S → Type 0) (a b : Rule T S E) (f : Keeps R P a Q) (g : Keeps R Q b W) where
    seq_takes : (s : S) (ts : List T) (t : S) (rest : List T) → P s → Takes (seq a b) s ts t rest → W t
    unfolding Takes
    seq_takes s ts t rest h k = g.takes k.1 k.0 t rest (f.takes s ts k.1 k.0 h k.2) k.3

    seq_halts : (s : S) (ts : List T) (e : E) → P s → Front (seq a b) s ts (Err e) → R e
    unfolding Front
    seq_halts s ts e h (inl k) = f.halts s ts e h k
    seq_halts s ts e h (inr k) = g.halts k.1 k.0 e (f.takes s ts k.1 k.0 h k.2) k.3

    pub keeps_seq : Keeps R P (seq a b) W
    keeps_seq = record { takes = seq_takes; halts = seq_halts }

  module _ (P Q : S → Type 0) (a b : Rule T S E) (f : Keeps R P a Q) (g : Keeps R P b Q) where
    alt_takes : (s : S) (ts : List T) (t : S) (rest : List T) → P s → Takes (alt a b) s ts t rest → Q t
    unfolding Takes
    alt_takes s ts t rest h (inl k) = f.takes s ts t rest h k
    alt_takes s ts t rest h (inr k) = g.takes s ts t rest h k

    alt_halts : (s : S) (ts : List T) (e : E) → P s → Front (alt a b) s ts (Err e) → R e
    unfolding Front
    alt_halts s ts e h (inl k) = f.halts s ts e h k
    alt_halts s ts e h (inr k) = g.halts s ts e h k

    pub keeps_alt : Keeps R P (alt a b) Q
    keeps_alt = record { takes = alt_takes; halts = alt_halts }

  module _ (P : S → Type 0) (a : Rule T S E) (f : Keeps R P a P) where
    turns_take : (n : ℕ) (s : S) (ts : List T) (t : S) (rest : List T) → P s → Turns (Takes a) n s ts t rest → P t
    unfolding Turns
    turns_take zero s ts t rest h k = subst P k.1 h
    turns_take (suc n) s ts t rest h k = turns_take n k.1 k.0 t rest (f.takes s ts k.1 k.0 h k.2) k.3

    many_takes : (s : S) (ts : List T) (t : S) (rest : List T) → P s → Takes (many a) s ts t rest → P t
    unfolding Takes
    many_takes s ts t rest h k = turns_take k.0 s ts t rest h k.1

    many_halts : (s : S) (ts : List T) (e : E) → P s → Front (many a) s ts (Err e) → R e
    unfolding Front
    many_halts s ts e h k = last k.4
      where
        last : ((k.1 ≡ []) × (◌≡◌ {A = Result S E} (Err e) (Ok k.2))) ⊎ Front a k.2 k.1 (Err e) → R e
        last (inl z) = absurd (let g = z.1 in cc)
        last (inr z) = f.halts k.2 k.1 e (turns_take k.0 s ts k.2 k.1 h k.3) z

    pub keeps_many : Keeps R P (many a) P
    keeps_many = record { takes = many_takes; halts = many_halts }

  pub keeps_to : (P Q W : S → Type 0) (a : Rule T S E) → ((s : S) → Q s → W s) → Keeps R P a Q → Keeps R P a W
  keeps_to P Q W a w f = record { takes = λ s ts t rest h k. w t (f.takes s ts t rest h k); halts = f.halts }
