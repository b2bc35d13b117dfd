-- Reading by a rule with one token of look-ahead, and when a rule can be read so.
use Rattle.std.specs.Prelude.{◌≡◌, ℕ, zero, suc, Bool, true, false, ◌||◌, ◌&&◌, cond, List, [], ◌∷◌, length, Result, Ok, Err}
use Rattle.grammar.specs.Rule.{Rule, none, one, before, seq, alt, many}

-- why a reader stopped, with the tokens from there on
pub data Stop (T E : Type 0) : Type 0 where
  syntax : List T → Stop T E
  refusal : E → List T → Stop T E

abbrev pub nullable : {T S E : Type 0} → Rule T S E → Bool
nullable none = true
nullable (one p f k) = false
nullable (before p) = false
nullable (seq a b) = nullable a && nullable b
nullable (alt a b) = nullable a || nullable b
nullable (many a) = true

-- whether the rule can be whole of no token
abbrev pub short : {T S E : Type 0} → Rule T S E → Bool
short none = true
short (one p f k) = false
short (before p) = true
short (seq a b) = short a && short b
short (alt a b) = short a || short b
short (many a) = true

abbrev pub begins : {T S E : Type 0} → Rule T S E → T → Bool
begins none t = false
begins (one p f k) t = p t
begins (before p) t = p t
begins (seq a b) t = begins a t || (nullable a && begins b t)
begins (alt a b) t = begins a t || begins b t
begins (many a) t = begins a t

abbrev pub starts : {T S E : Type 0} → Rule T S E → List T → Bool
starts a [] = false
starts a (t ∷ ts) = begins a t

infixl 10 ◌>>=◌
abbrev pub ◌>>=◌ : {A B X : Type 0} → Result A X → (A → Result B X) → Result B X
(Ok x) >>= f = f x
(Err e) >>= f = Err e

abbrev pub acting : {S E B : Type 0} → Result S E → (S → B) → (E → B) → B
acting (Ok s) f g = f s
acting (Err e) f g = g e

abbrev pub repeat : {T S X : Type 0} → (List T → Bool) → (S → List T → Result (S × List T) X) → ℕ → S → List T → Result (S × List T) X
repeat g r zero s ts = Ok (s, ts)
repeat g r (suc n) s ts = cond (g ts) (r s ts >>= λ x. repeat g r n x.0 x.1) (Ok (s, ts))

abbrev pub read : {T S E : Type 0} → Rule T S E → S → List T → Result (S × List T) (Stop T E)
read none s ts = Ok (s, ts)
read (one p f k) s [] = Err (syntax [])
read (one p f k) s (t ∷ ts) = cond (p t) (acting (f t s) (λ m. read (k t) m ts) (λ e. Err (refusal e (t ∷ ts)))) (Err (syntax (t ∷ ts)))
read (before p) s [] = Err (syntax [])
read (before p) s (t ∷ ts) = cond (p t) (Ok (s, t ∷ ts)) (Err (syntax (t ∷ ts)))
read (seq a b) s ts = read a s ts >>= λ x. read b x.0 x.1
read (alt a b) s ts = cond (starts a ts) (read a s ts) (read b s ts)
read (many a) s ts = repeat (starts a) (read a) (length ts) s ts

-- the rule can be read with one token of look-ahead, where what follows it begins with a token of next
unfoldable pub IsSimple : {T S E : Type 0} → Rule T S E → (T → Bool) → Type 0
IsSimple none next = Unit {0}
IsSimple {T} (one p f k) next = (t : T) → p t ≡ true → IsSimple (k t) next
IsSimple (before p) next = Unit {0}
IsSimple (seq a b) next = IsSimple a (λ t. begins b t || (nullable b && next t)) × IsSimple b next
IsSimple {T} (alt a b) next = (nullable a ≡ false) × ((t : T) → begins a t ≡ true → (begins b t || (nullable b && next t)) ≡ false) × IsSimple a next × IsSimple b next
IsSimple {T} (many a) next = (nullable a ≡ false) × (short a ≡ false) × ((t : T) → begins a t ≡ true → next t ≡ false) × IsSimple a (λ t. begins a t || next t)
