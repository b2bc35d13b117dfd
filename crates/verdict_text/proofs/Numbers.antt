-- Numbers in decimal digits.
use Rattle.std.proofs.Common.{◌≡◌, refl, ◌∙◌, sym, ap, ◌<◌, ◌≤◌, ◌^◌, ℕ, zero, suc, Bool, true, false, ◌&&◌, List, [], ◌∷◌, length, Option, Some, None, arith, rules, decimal, nat_lt}
use Rattle.std.specs.List.{list_all, slice_index}
use Rattle.std.specs.Char.{is_ascii_digit}
use Rattle.std.specs.Str.{IsAscii, IsUtf8}
use Rattle.std.specs.Str.Parse.{digits_value}
use Rattle.std.proofs.lemmas.Str.{IsUtf8-from_ascii}
use Rattle.std.proofs.lemmas.Str.Parse.{IsNumeralModel, numerals_by_value}
use Rattle.file_rules.specs.Kept.{both_true}
use Rattle.verdict_text.specs.Told.{told_number}

pub own : IsNumeralModel (λ ds. list_all is_ascii_digit ds ≡ true) (digits_value 10)
own = numerals_by_value _ (search rules)

pub ascii : (bs : List ℕ) → list_all is_ascii_digit bs ≡ true → IsAscii bs
ascii [] h i = omega arith
ascii (b ∷ bs) h zero = grind arith
ascii (b ∷ bs) h (suc i) = ascii bs (both_true (is_ascii_digit b) (list_all is_ascii_digit bs) h).1 i

pub told_none : (bs : List ℕ) → list_all is_ascii_digit bs ≡ false → told_number bs ≡ None
unfolding told_number
told_none bs h = rw h refl

pub told_some : (bs : List ℕ) (n : ℕ) → list_all is_ascii_digit bs ≡ true → 0 < length bs → digits_value 10 bs < 2 ^ 32 → n ≡ digits_value 10 bs → told_number bs ≡ Some n
unfolding told_number
told_some bs n h l s e = grind arith

pub told_wide : (bs : List ℕ) → list_all is_ascii_digit bs ≡ true → ¬ ((0 < length bs) × (digits_value 10 bs < 2 ^ 32)) → told_number bs ≡ None
unfolding told_number
told_wide bs h wide = grind arith
