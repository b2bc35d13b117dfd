-- Tests of equal texts.
use Rattle.std.proofs.Common.{◌≡◌, ℕ, Bool, true, false, List, refl}
use Rattle.std.specs.Bool.{IsTrue}
use Rattle.std.specs.Str.{bytes_eq}
use Rattle.std.specs.Cmp.Lexicographic.{bytes_decides}

pub same_test : (r : Bool) (xs ys : List ℕ) → (IsTrue r → xs ≡ ys) × (xs ≡ ys → IsTrue r) → r ≡ bytes_eq xs ys
same_test r xs ys h = go r (bytes_eq xs ys) refl h.0 h.1
  where
    go : (r b : Bool) → bytes_eq xs ys ≡ b → (IsTrue r → xs ≡ ys) → (xs ≡ ys → IsTrue r) → r ≡ b
    go true true e f g = refl
    go false false e f g = refl
    go true false e f g = absurd (let yes : bytes_eq xs ys ≡ true = (bytes_decides xs ys).1 (f refl) in cc)
    go false true e f g = absurd (let yes : false ≡ true = g ((bytes_decides xs ys).0 e) in cc)
