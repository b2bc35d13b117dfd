-- Repetitions, one turn further.
use Rattle.std.proofs.Common.{◌≡◌, Bool, true, false, List, ◌∷◌, Result, Ok, Err, refl}
use Rattle.grammar.specs.Rule.{Rule, many}
use Rattle.grammar.specs.Reading.{Stop, refusal, short, begins, acting, ◌>>=◌, read, IsSimple}
use Rattle.grammar.proofs.Stops.{many_turn, many_end}

-- an item of the repetition begins here
pub turns : {T S E : Type 0} (a : Rule T S E) (next : T → Bool) → IsSimple a next → short a ≡ false → (s : S) (t : T) (ts : List T) → begins a t ≡ true
    → read (many a) s (t ∷ ts) ≡ (read a s (t ∷ ts) >>= λ x. read (many a) x.0 x.1)
turns a next h nu s t ts st = many_turn a next h nu s (t ∷ ts) st

-- none does
pub ends : {T S E : Type 0} (a : Rule T S E) (s : S) (t : T) (ts : List T) → begins a t ≡ false → read (many a) s (t ∷ ts) ≡ Ok (s, t ∷ ts)
ends a s t ts st = many_end a s (t ∷ ts) st

-- what follows an action
pub acting_bind : {S T E A B : Type 0} (o : Result S E) (f : S → Result A (Stop T E)) (ts : List T) (k : A → Result B (Stop T E))
    → (acting o f (λ e. Err (refusal e ts)) >>= k) ≡ acting o (λ m. f m >>= k) (λ e. Err (refusal e ts))
acting_bind (Ok m) f ts k = refl
acting_bind (Err e) f ts k = refl
