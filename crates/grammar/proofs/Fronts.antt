-- Fronts of a rule that something else follows: 'a front of the rule, and then of Q'.
use Rattle.std.proofs.Common.{◌≡◌, ℕ, zero, suc, Bool, true, false, ◌||◌, ◌&&◌, List, [], ◌∷◌, ◌⊎◌, inl, inr, refl}
use Rattle.grammar.specs.Rule.{Rule, none, one, before, seq, alt, many}
use Rattle.grammar.specs.Reading.{nullable, begins}

-- ---- fronts of a rule that something follows

abbrev pub Times : {T : Type 0} → ℕ → ((List T → Type 0) → List T → Type 0) → (List T → Type 0) → List T → Type 0
Times zero f Q = Q
Times (suc n) f Q = f (Times n f Q)

-- the list is a front of the rule and then of Q
abbrev pub FrontThen : {T S E : Type 0} → Rule T S E → (List T → Type 0) → List T → Type 0
FrontThen none Q ts = Q ts
FrontThen (one p f k) Q [] = Unit {0}
FrontThen (one p f k) Q (t ∷ ts) = (p t ≡ true) × FrontThen (k t) Q ts
FrontThen (before p) Q [] = Unit {0}
FrontThen (before p) Q (t ∷ ts) = (p t ≡ true) × Q (t ∷ ts)
FrontThen (seq a b) Q ts = FrontThen a (FrontThen b Q) ts
FrontThen (alt a b) Q ts = FrontThen a Q ts ⊎ FrontThen b Q ts
FrontThen (many a) Q ts = (n : ℕ) × Times n (FrontThen a) Q ts

-- Q holds of the empty list, and of lists that begin with a token of next
pub record Like {T : Type 0} (next : T → Bool) (Q : List T → Type 0) : Type 0 where
  pub nil : Q []
  pub head : (t : T) (ts : List T) → Q (t ∷ ts) → next t ≡ true

pub or_right : (x y : Bool) → y ≡ true → (x || y) ≡ true
or_right true y e = refl
or_right false y e = e

pub or_left : (x y : Bool) → x ≡ true → (x || y) ≡ true
or_left true y e = refl
or_left false y e = absurd cc

pub neither : (x y : Bool) → x ≡ false → (x || y) ≡ true → y ≡ true
neither true y e h = absurd cc
neither false y e h = h

pub and_right : (x y : Bool) → x ≡ false → (x && y) ≡ true → false ≡ true
and_right true y e h = absurd cc
and_right false y e h = h

-- ---- the empty list

pub FrontThen-nil : {T S E : Type 0} (a : Rule T S E) (Q : List T → Type 0) → Q [] → FrontThen a Q []
FrontThen-nil none Q h = h
FrontThen-nil (one p f k) Q h = tt
FrontThen-nil (before p) Q h = tt
FrontThen-nil (seq a b) Q h = FrontThen-nil a (FrontThen b Q) (FrontThen-nil b Q h)
FrontThen-nil (alt a b) Q h = inl (FrontThen-nil a Q h)
FrontThen-nil (many a) Q h = (zero, h)

pub Times-nil : {T S E : Type 0} (a : Rule T S E) (Q : List T → Type 0) → Q [] → (n : ℕ) → Times n (FrontThen a) Q []
Times-nil a Q h zero = h
Times-nil a Q h (suc n) = FrontThen-nil a (Times n (FrontThen a) Q) (Times-nil a Q h n)

-- ---- the first token

pub distribute : (x y z p q : Bool) → (x || (p && (y || (q && z)))) ≡ true → ((x || (p && y)) || ((p && q) && z)) ≡ true
distribute true y z p q h = refl
distribute false true z true q h = refl
distribute false false z true q h = h
distribute false y z false q h = absurd cc

pub either_first : (x y p q z : Bool) → (x || (p && z)) ≡ true → ((x || y) || ((p || q) && z)) ≡ true
either_first true y p q z h = refl
either_first false true p q z h = refl
either_first false false true q z h = h
either_first false false false q z h = absurd cc

pub either_second : (x y p q z : Bool) → (y || (q && z)) ≡ true → ((x || y) || ((p || q) && z)) ≡ true
either_second true y p q z h = refl
either_second false true p q z h = refl
either_second false false true true z h = h
either_second false false false true z h = h
either_second false false p false z h = absurd cc

pub more_first : (x p z : Bool) → (x || (p && (x || z))) ≡ true → (x || z) ≡ true
more_first true p z h = refl
more_first false true z h = h
more_first false false z h = absurd cc

pub Times-head : {T S E : Type 0} (a : Rule T S E) (next : T → Bool) (Q : List T → Type 0) → Like next Q
    → ((F : T → Bool) (P : List T → Type 0) → Like F P → (t : T) (ts : List T) → FrontThen a P (t ∷ ts) → (begins a t || (nullable a && F t)) ≡ true)
    → (n : ℕ) (t : T) (ts : List T) → Times n (FrontThen a) Q (t ∷ ts) → (begins a t || next t) ≡ true
Times-head a next Q like ih zero t ts h = or_right (begins a t) (next t) (like.head t ts h)
Times-head a next Q like ih (suc n) t ts h =
    let rest : Like (λ u. begins a u || next u) (Times n (FrontThen a) Q) = record { nil = Times-nil a Q like.nil n; head = λ u us g. Times-head a next Q like ih n u us g } in
    more_first (begins a t) (nullable a) (next t) (ih (λ u. begins a u || next u) (Times n (FrontThen a) Q) rest t ts h)

pub FrontThen-head : {T S E : Type 0} (a : Rule T S E) (next : T → Bool) (Q : List T → Type 0) → Like next Q → (t : T) (ts : List T) → FrontThen a Q (t ∷ ts) → (begins a t || (nullable a && next t)) ≡ true
FrontThen-head none next Q like t ts h = like.head t ts h
FrontThen-head (one p f k) next Q like t ts h = or_left (p t) false h.0
FrontThen-head (before p) next Q like t ts h = or_left (p t) false h.0
FrontThen-head (seq a b) next Q like t ts h =
    let rest : Like (λ u. begins b u || (nullable b && next u)) (FrontThen b Q) = record { nil = FrontThen-nil b Q like.nil; head = λ u us g. FrontThen-head b next Q like u us g } in
    distribute (begins a t) (begins b t) (next t) (nullable a) (nullable b) (FrontThen-head a (λ u. begins b u || (nullable b && next u)) (FrontThen b Q) rest t ts h)
FrontThen-head (alt a b) next Q like t ts h =
    elim h [
      | inl g ↦ either_first (begins a t) (begins b t) (nullable a) (nullable b) (next t) (FrontThen-head a next Q like t ts g)
      | inr g ↦ either_second (begins a t) (begins b t) (nullable a) (nullable b) (next t) (FrontThen-head b next Q like t ts g)
    ]
FrontThen-head (many a) next Q like t ts h = Times-head a next Q like (λ F P l u us g. FrontThen-head a F P l u us g) h.0 t ts h.1
