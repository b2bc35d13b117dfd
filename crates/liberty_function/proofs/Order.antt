-- What becomes more known keeps what was known: Kleene's operations, places in lists, and functions.
use Rattle.std.proofs.Common.{◌≡◌, ℕ, zero, suc, refl, subst, List, [], ◌∷◌}
use Rattle.tern_core.specs.declared.tern.Tern.{Tern}
use Rattle.tern_core.specs.declared.tern.Tern.TheVariants.{Zero, One, Unknown}
use Rattle.tern_core.specs.Values.{not_of, and_of, or_of, xor_of, common_of}
use Rattle.tern_core.specs.Order.{IsAtMost, AreAtMost, IsMonotone, IsMonotoneInBoth}
use Rattle.liberty_function.specs.declared.program.Source.{Source}
use Rattle.liberty_function.specs.declared.program.Source.TheVariants as source
use Rattle.liberty_function.specs.Function.{Function, constant, name, inverse, exclusive, both, either, value_of}
use Rattle.liberty_function.specs.Sources.{Named, value_at, source_value, sources_of}
use Rattle.liberty_function.specs.Texts.{name_value}

pub same : (a : Tern) → IsAtMost a a
same Zero = refl
same One = refl
same Unknown = tt

pub not_more : IsMonotone not_of
not_more Zero b p = subst (λ k. IsAtMost One (not_of k)) p refl
not_more One b p = subst (λ k. IsAtMost Zero (not_of k)) p refl
not_more Unknown b p = tt

zero_right : (b : Tern) → Zero ≡ and_of b Zero
zero_right Zero = refl
zero_right One = refl
zero_right Unknown = refl

pub and_more : IsMonotoneInBoth and_of
and_more Zero b c d p q = subst (λ k. IsAtMost Zero (and_of k d)) p refl
and_more One b c d p q = subst (λ k. IsAtMost c (and_of k d)) p q
and_more Unknown b Zero d p q = subst (λ k. IsAtMost Zero (and_of b k)) q (zero_right b)
and_more Unknown b One d p q = tt
and_more Unknown b Unknown d p q = tt

one_right : (b : Tern) → One ≡ or_of b One
one_right Zero = refl
one_right One = refl
one_right Unknown = refl

pub or_more : IsMonotoneInBoth or_of
or_more Zero b c d p q = subst (λ k. IsAtMost c (or_of k d)) p q
or_more One b c d p q = subst (λ k. IsAtMost One (or_of k d)) p refl
or_more Unknown b Zero d p q = tt
or_more Unknown b One d p q = subst (λ k. IsAtMost One (or_of b k)) q (one_right b)
or_more Unknown b Unknown d p q = tt

pub xor_more : IsMonotoneInBoth xor_of
xor_more Zero b c d p q = subst (λ k. IsAtMost c (xor_of k d)) p q
xor_more One b c d p q = subst (λ k. IsAtMost (not_of c) (xor_of k d)) p (not_more c d q)
xor_more Unknown b c d p q = tt

pub common_more : IsMonotoneInBoth common_of
common_more Zero b Zero d p q = subst (λ k. IsAtMost Zero (common_of k d)) p (subst (λ k. IsAtMost Zero (common_of Zero k)) q refl)
common_more Zero b One d p q = tt
common_more Zero b Unknown d p q = tt
common_more One b Zero d p q = tt
common_more One b One d p q = subst (λ k. IsAtMost One (common_of k d)) p (subst (λ k. IsAtMost One (common_of One k)) q refl)
common_more One b Unknown d p q = tt
common_more Unknown b c d p q = tt

pub value_more : (xs ys : List Tern) (k : ℕ) → AreAtMost xs ys → IsAtMost (value_at xs k) (value_at ys k)
value_more [] [] k h = tt
value_more [] (y ∷ ys) k h = absurd h
value_more (x ∷ xs) [] k h = absurd h
value_more (x ∷ xs) (y ∷ ys) zero h = h.0
value_more (x ∷ xs) (y ∷ ys) (suc k) h = value_more xs ys k h.1

pub source_more : (p q s t : List Tern) (from : Source) → AreAtMost p q → AreAtMost s t → IsAtMost (source_value p s from) (source_value q t from)
source_more p q s t source.Zero h k = refl
source_more p q s t source.One h k = refl
source_more p q s t source.Unknown h k = tt
source_more p q s t (source.Input j) h k = value_more p q j h
source_more p q s t (source.State j) h k = value_more s t j k

pub name_more : (names : List Named) (p q s t : List Tern) → AreAtMost p q → AreAtMost s t → (n : List ℕ) → IsAtMost (name_value names p s n) (name_value names q t n)
name_more names p q s t h k n = source_more p q s t (sources_of names n) h k

pub function_more : (f : Function) (a b : List ℕ → Tern) → ((n : List ℕ) → IsAtMost (a n) (b n)) → IsAtMost (value_of a f) (value_of b f)
function_more (constant v) a b h = same v
function_more (name n) a b h = h n
function_more (inverse f) a b h = not_more (value_of a f) (value_of b f) (function_more f a b h)
function_more (exclusive f g) a b h = xor_more (value_of a f) (value_of b f) (value_of a g) (value_of b g) (function_more f a b h) (function_more g a b h)
function_more (both f g) a b h = and_more (value_of a f) (value_of b f) (value_of a g) (value_of b g) (function_more f a b h) (function_more g a b h)
function_more (either f g) a b h = or_more (value_of a f) (value_of b f) (value_of a g) (value_of b g) (function_more f a b h) (function_more g a b h)
