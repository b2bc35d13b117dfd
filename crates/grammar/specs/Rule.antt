-- Rules of grammars over tokens T, with actions on a state S that may refuse with E.
use Rattle.std.specs.Prelude.{◌≡◌, ℕ, zero, suc, Bool, true, List, [], ◌∷◌, Result, Ok, Err, ◌⊎◌}

pub data Rule (T S E : Type 0) : Type 0 where
  none : Rule T S E
  -- a token that passes the test, its action, and the rule of what follows
  one : (T → Bool) → (T → S → Result S E) → (T → Rule T S E) → Rule T S E
  -- nothing, before a token that passes the test
  before : (T → Bool) → Rule T S E
  seq : Rule T S E → Rule T S E → Rule T S E
  alt : Rule T S E → Rule T S E → Rule T S E
  many : Rule T S E → Rule T S E

-- n turns one after the other
unfoldable pub Turns : {T S : Type 0} → (S → List T → S → List T → Type 0) → ℕ → S → List T → S → List T → Type 0
Turns R zero s ts t rest = (ts ≡ rest) × (s ≡ t)
Turns {T} {S} R (suc n) s ts t rest = (us : List T) × (m : S) × R s ts m us × Turns R n m us t rest

-- the list begins with a whole text of the rule, whose actions lead from s to t, and then rest follows
unfoldable pub Takes : {T S E : Type 0} → Rule T S E → S → List T → S → List T → Type 0
Takes none s ts t rest = (ts ≡ rest) × (s ≡ t)
Takes {T} {S} (one p f k) s ts t rest = (x : T) × (us : List T) × (m : S) × (ts ≡ x ∷ us) × (p x ≡ true) × (f x s ≡ Ok m) × Takes (k x) m us t rest
Takes {T} (before p) s ts t rest = (x : T) × (us : List T) × (rest ≡ x ∷ us) × (p x ≡ true) × (ts ≡ rest) × (s ≡ t)
Takes {T} {S} (seq a b) s ts t rest = (us : List T) × (m : S) × Takes a s ts m us × Takes b m us t rest
Takes (alt a b) s ts t rest = Takes a s ts t rest ⊎ Takes b s ts t rest
Takes (many a) s ts t rest = (n : ℕ) × Turns (Takes a) n s ts t rest

abbrev pub Acts : {T S E : Type 0} → Result S E → List T → Result S E → (S → Type 0) → Type 0
Acts (Ok m) us o go = go m
Acts (Err e) us o go = (us ≡ []) × (o ≡ Err e)

-- the list is a front of the rule; its actions lead to a state, or the last of them refuses
unfoldable pub Front : {T S E : Type 0} → Rule T S E → S → List T → Result S E → Type 0
Front none s ts o = (ts ≡ []) × (o ≡ Ok s)
Front {T} (one p f k) s ts o = ((ts ≡ []) × (o ≡ Ok s)) ⊎ ((x : T) × (us : List T) × (ts ≡ x ∷ us) × (p x ≡ true) × Acts (f x s) us o (λ m. Front (k x) m us o))
Front (before p) s ts o = (ts ≡ []) × (o ≡ Ok s)
Front {T} {S} (seq a b) s ts o = Front a s ts o ⊎ ((us : List T) × (m : S) × Takes a s ts m us × Front b m us o)
Front (alt a b) s ts o = Front a s ts o ⊎ Front b s ts o
Front {T} {S} (many a) s ts o = (n : ℕ) × (us : List T) × (m : S) × Turns (Takes a) n s ts m us × (((us ≡ []) × (o ≡ Ok m)) ⊎ Front a m us o)

-- the same without the actions
unfoldable pub Goes : {T : Type 0} → (List T → List T → Type 0) → ℕ → List T → List T → Type 0
Goes R zero ts rest = ts ≡ rest
Goes {T} R (suc n) ts rest = (us : List T) × R ts us × Goes R n us rest

unfoldable pub IsTakes : {T S E : Type 0} → Rule T S E → List T → List T → Type 0
IsTakes none ts rest = ts ≡ rest
IsTakes {T} (one p f k) ts rest = (x : T) × (us : List T) × (ts ≡ x ∷ us) × (p x ≡ true) × IsTakes (k x) us rest
IsTakes {T} (before p) ts rest = (x : T) × (us : List T) × (rest ≡ x ∷ us) × (p x ≡ true) × (ts ≡ rest)
IsTakes {T} (seq a b) ts rest = (us : List T) × IsTakes a ts us × IsTakes b us rest
IsTakes (alt a b) ts rest = IsTakes a ts rest ⊎ IsTakes b ts rest
IsTakes (many a) ts rest = (n : ℕ) × Goes (IsTakes a) n ts rest

unfoldable pub IsFront : {T S E : Type 0} → Rule T S E → List T → Type 0
IsFront none ts = ts ≡ []
IsFront {T} (one p f k) ts = (ts ≡ []) ⊎ ((x : T) × (us : List T) × (ts ≡ x ∷ us) × (p x ≡ true) × IsFront (k x) us)
IsFront (before p) ts = ts ≡ []
IsFront {T} (seq a b) ts = IsFront a ts ⊎ ((us : List T) × IsTakes a ts us × IsFront b us)
IsFront (alt a b) ts = IsFront a ts ⊎ IsFront b ts
IsFront {T} (many a) ts = (n : ℕ) × (us : List T) × Goes (IsTakes a) n ts us × ((us ≡ []) ⊎ IsFront a us)

-- the whole list
unfoldable pub Whole : {T S E : Type 0} → Rule T S E → S → List T → S → Type 0
Whole a s ts t = Takes a s ts t []

unfoldable pub IsWhole : {T S E : Type 0} → Rule T S E → List T → Type 0
IsWhole a ts = IsTakes a ts []
