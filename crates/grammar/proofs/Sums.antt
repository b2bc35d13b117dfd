-- Reading sums, a byte further.
use Rattle.std.proofs.Common.{◌≡◌, ℕ, ◌+◌, ◌-◌, ◌<◌, ◌≤◌, Bool, true, false, ◌||◌, ◌&&◌, eqb, ltb, leb, List, [], ◌∷◌, length, drop, get_or, Ok, Err, refl, sym, ap, ◌∙◌, arith}
use Rattle.std.proofs.lemmas.List.{drop_more}
use Rattle.std.proofs.lemmas.Bool.{eqb-true, lt-ltb, ltb-true, leb-true}
use Rattle.std.proofs.Math.ListN.{drop_of_length-le}
use Rattle.grammar.specs.Reading.{syntax, refusal, IsSimple}
use Rattle.grammar.specs.Answers.{read_all, ended}
use Rattle.grammar.specs.Example.{sums, add, is_digit, too_large}

-- one token of look-ahead is enough
pub sums_simple : IsSimple sums (λ t. false)
unfolding sums IsSimple is_digit
sums_simple = ((refl, refl, (λ t digit. apart t digit), (λ t e. tt)), (λ t e. tt))
  where
    apart : (t : ℕ) → is_digit t ≡ true → (eqb t 46 || (false && false)) ≡ false
    apart t digit = go (eqb t 46) refl
      where
        go : (g : Bool) → eqb t 46 ≡ g → (g || (false && false)) ≡ false
        go true e = absurd (let low : (leb 48 46 && leb 46 57) ≡ true = ap (λ z. leb 48 z && leb z 57) (sym (eqb-true t 46 e)) ∙ digit in cc)
        go false e = refl

turn : (sum b : ℕ) (bs : List ℕ) → is_digit b ≡ true → ltb 9 (sum + (b - 48)) ≡ false → read_all sums sum (b ∷ bs) ≡ read_all sums (sum + (b - 48)) bs
unfolding sums add
turn sum b bs digit small = rw (digit, small) refl

excess : (sum b : ℕ) (bs : List ℕ) → is_digit b ≡ true → ltb 9 (sum + (b - 48)) ≡ true → read_all sums sum (b ∷ bs) ≡ Err (refusal too_large (b ∷ bs))
unfolding sums add
excess sum b bs digit large = rw (digit, large) refl

pointed : (sum : ℕ) (bs : List ℕ) → read_all sums sum (46 ∷ bs) ≡ ended sum bs
unfolding sums is_digit
pointed sum bs = refl

other : (sum b : ℕ) (bs : List ℕ) → is_digit b ≡ false → eqb b 46 ≡ false → read_all sums sum (b ∷ bs) ≡ Err (syntax (b ∷ bs))
unfolding sums
other sum b bs digit point = rw (digit, point) refl

none_left : (sum : ℕ) → read_all sums sum [] ≡ Err (syntax [])
unfolding sums
none_left sum = refl

not_less : (m n : ℕ) → n ≤ m → ltb m n ≡ false
not_less m n h = go (ltb m n) refl
  where
    go : (g : Bool) → ltb m n ≡ g → g ≡ false
    go true e = absurd (let less = ltb-true m n e in omega arith)
    go false e = refl

not_equal : (m n : ℕ) → (m ≡ n → ⊥) → eqb m n ≡ false
not_equal m n h = go (eqb m n) refl
  where
    go : (g : Bool) → eqb m n ≡ g → g ≡ false
    go true e = absurd (h (eqb-true m n e))
    go false e = refl

-- ---- at an index of a text

pub turn_at : (text : List ℕ) (at sum : ℕ) → at < length text → is_digit (get_or text at 0) ≡ true → sum + (get_or text at 0 - 48) ≤ 9
    → read_all sums sum (drop at text) ≡ read_all sums (sum + (get_or text at 0 - 48)) (drop (at + 1) text)
turn_at text at sum h digit small = ap (read_all sums sum) (drop_more text at 0 h) ∙ turn sum (get_or text at 0) (drop (at + 1) text) digit (not_less 9 (sum + (get_or text at 0 - 48)) small)

pub excess_at : (text : List ℕ) (at sum : ℕ) → at < length text → is_digit (get_or text at 0) ≡ true → 9 < sum + (get_or text at 0 - 48) → read_all sums sum (drop at text) ≡ Err (refusal too_large (drop at text))
excess_at text at sum h digit large =
    ap (read_all sums sum) (drop_more text at 0 h) ∙ excess sum (get_or text at 0) (drop (at + 1) text) digit (lt-ltb 9 (sum + (get_or text at 0 - 48)) large) ∙ ap (λ z. Err (refusal too_large z)) (sym (drop_more text at 0 h))

pub other_at : (text : List ℕ) (at sum : ℕ) → at < length text → is_digit (get_or text at 0) ≡ false → (get_or text at 0 ≡ 46 → ⊥) → read_all sums sum (drop at text) ≡ Err (syntax (drop at text))
other_at text at sum h digit point =
    ap (read_all sums sum) (drop_more text at 0 h) ∙ other sum (get_or text at 0) (drop (at + 1) text) digit (not_equal (get_or text at 0) 46 point) ∙ ap (λ z. Err (syntax z)) (sym (drop_more text at 0 h))

point_at : (text : List ℕ) (at sum : ℕ) → at < length text → get_or text at 0 ≡ 46 → read_all sums sum (drop at text) ≡ ended sum (drop (at + 1) text)
point_at text at sum h point = ap (read_all sums sum) (drop_more text at 0 h) ∙ ap (λ z. read_all sums sum (z ∷ drop (at + 1) text)) point ∙ pointed sum (drop (at + 1) text)

pub last_at : (text : List ℕ) (at sum : ℕ) → at < length text → get_or text at 0 ≡ 46 → length text ≤ at + 1 → read_all sums sum (drop at text) ≡ Ok sum
last_at text at sum h point last = point_at text at sum h point ∙ ap (ended sum) (drop_of_length-le text last)

pub more_at : (text : List ℕ) (at sum : ℕ) → at < length text → get_or text at 0 ≡ 46 → at + 1 < length text → read_all sums sum (drop at text) ≡ Err (syntax (drop (at + 1) text))
more_at text at sum h point more = point_at text at sum h point ∙ ap (ended sum) (drop_more text (at + 1) 0 more) ∙ ap (λ z. Err (syntax z)) (sym (drop_more text (at + 1) 0 more))

pub early_at : (text : List ℕ) (at sum : ℕ) → length text ≤ at → read_all sums sum (drop at text) ≡ Err (syntax (drop (length text) text))
early_at text at sum h = ap (read_all sums sum) (drop_of_length-le text h) ∙ none_left sum ∙ ap (λ z. Err (syntax z)) (sym (drop_of_length-le text (omega arith)))

pub digit_low : (b : ℕ) → is_digit b ≡ true → 48 ≤ b
unfolding is_digit
digit_low b h = leb-true 48 b (left (leb 48 b) (leb b 57) h)
  where
    left : (x y : Bool) → (x && y) ≡ true → x ≡ true
    left true y h = refl
    left false y h = absurd cc
