-- Sums of digits: any number of digits, whose sum is nine at most, and then a point.
use Rattle.std.specs.Prelude.{ℕ, ◌+◌, ◌-◌, ◌&&◌, ◌==◌, Bool, nat_le, nat_lt, if◌then◌else◌, List, drop, Result, Ok, Err}
use Rattle.grammar.specs.declared.example.SumRefusal.{SumRefusal}
use Rattle.grammar.specs.declared.example.SumRefusal.TheVariants.{Syntax, TooLarge}
use Rattle.grammar.specs.Rule.{Rule, none, one, seq, many}
use Rattle.grammar.specs.Reading.{Stop, syntax, refusal}

pub data Excess : Type 0 where
  too_large : Excess

abbrev pub SumRule : Type 0
SumRule = Rule ℕ ℕ Excess

unfoldable pub is_digit : ℕ → Bool
is_digit b = nat_le 48 b && nat_le b 57

-- the sum with one digit more
unfoldable pub add : ℕ → ℕ → Result ℕ Excess
add b sum = if nat_lt 9 (sum + (b - 48)) then Err too_large else Ok (sum + (b - 48))

abbrev pub keep : ℕ → ℕ → Result ℕ Excess
keep b sum = Ok sum

abbrev pub point : ℕ → Bool
point b = b == 46

unfoldable pub sums : SumRule
sums = seq (many (one is_digit add (λ b. none))) (one point keep (λ b. none))

-- what a reader's answer says of the text
abbrev pub told : List ℕ → Result ℕ SumRefusal → Result ℕ (Stop ℕ Excess)
told text (Ok sum) = Ok sum
told text (Err (Syntax at)) = Err (syntax (drop at text))
told text (Err (TooLarge at)) = Err (refusal too_large (drop at text))
