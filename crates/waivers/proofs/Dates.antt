-- Texts and the dates that they spell.
use Rattle.std.proofs.Common.{◌≡◌, ◌≤◌, ◌+◌, ◌*◌, ◌-◌, ◌/◌, ◌%◌, ℕ, Bool, true, false, List, [], ◌∷◌, ◌++◌, Option, Some, None, refl, sym, ap, ◌∙◌, subst, arith}
use Rattle.std.specs.Prelude.{◌&&◌, ◌||◌, ◌==◌, nat_le, if◌then◌else◌, ℤ, pos}
use Rattle.std.specs.Char.{is_ascii_digit}
use Rattle.std.proofs.lemmas.Bool.Decides.{nat_tests}
use Rattle.std.proofs.lemmas.Int.{ints}
use Rattle.file_rules.specs.Kept.{both_true}
use Rattle.jiff_core.specs.Calendar.{IsDate, days_in_month, is_leap_year}
use Rattle.jiff_core.specs.Date.{IsYmd, epoch_day}
use Rattle.jiff_core.specs.declared.civil.date.Date.{Date}
use Rattle.waivers.specs.declared.date_parts.DateParts.{DateParts}
use Rattle.waivers.specs.Days.{IsDay, date_parts, date_text, day_of, day_of_parts, digit, followed_by, is_date, number_of, parts_after, parts_of, two_digits, value_of_four, value_of_two}

-- ---- digits

digit_of : (k : ℕ) → k ≤ 9 → digit (48 + k) ≡ Some k
digit_of k h =
    let e : is_ascii_digit (48 + k) ≡ true = grind (arith, nat_tests) in
    let v : 48 + k - 48 ≡ k = omega arith in
    rw e (ap Some v)

digit_by : (b v : ℕ) (t : Bool) → is_ascii_digit b ≡ t → (if t then Some (b - 48) else None) ≡ Some v → (b ≡ 48 + v) × (v ≤ 9)
digit_by b v false t h = cc h
digit_by b v true t h =
    let e : b - 48 ≡ v = cc h in
    (grind (arith, nat_tests), grind (arith, nat_tests))

digit_is : (b v : ℕ) → digit b ≡ Some v → (b ≡ 48 + v) × (v ≤ 9)
digit_is b v h = digit_by b v (is_ascii_digit b) refl h

two_of : (n : ℕ) → n ≤ 99 → value_of_two (48 + n / 10) (48 + n % 10) ≡ Some n
two_of n h =
    let first : n / 10 ≤ 9 = omega arith in
    let second : n % 10 ≤ 9 = omega arith in
    let v : 10 * (n / 10) + n % 10 ≡ n = omega arith in
    rw (digit_of (n / 10) first, digit_of (n % 10) second) (ap Some v)

two_by : (a b n : ℕ) (x y : Option ℕ) → digit a ≡ x → digit b ≡ y → followed_by 10 x y ≡ Some n → ((a ∷ b ∷ []) ≡ two_digits n) × (n ≤ 99)
two_by a b n None y e f h = cc h
two_by a b n (Some t) None e f h = cc h
two_by a b n (Some t) (Some o) e f h =
    let v : 10 * t + o ≡ n = cc h in
    let p = digit_is a t e in
    let q = digit_is b o f in
    let tens : n / 10 ≡ t = omega arith in
    let ones : n % 10 ≡ o = omega arith in
    (rw (tens, ones, p.0, q.0) refl, omega arith)

two_is : (a b n : ℕ) → value_of_two a b ≡ Some n → ((a ∷ b ∷ []) ≡ two_digits n) × (n ≤ 99)
two_is a b n h = two_by a b n (digit a) (digit b) refl refl h

four_of : (n : ℕ) → n ≤ 9999
    → value_of_four (48 + n / 100 / 10) (48 + n / 100 % 10) (48 + n % 100 / 10) (48 + n % 100 % 10) ≡ Some n
four_of n h =
    let first : n / 100 ≤ 99 = omega arith in
    let second : n % 100 ≤ 99 = omega arith in
    let v : 100 * (n / 100) + n % 100 ≡ n = omega arith in
    rw (two_of (n / 100) first, two_of (n % 100) second) (ap Some v)

four_by : (a b c d n : ℕ) (x y : Option ℕ) → value_of_two a b ≡ x → value_of_two c d ≡ y → followed_by 100 x y ≡ Some n
    → ((a ∷ b ∷ c ∷ d ∷ []) ≡ two_digits (n / 100) ++ two_digits (n % 100)) × (n ≤ 9999)
four_by a b c d n None y e f h = cc h
four_by a b c d n (Some t) None e f h = cc h
four_by a b c d n (Some t) (Some o) e f h =
    let v : 100 * t + o ≡ n = cc h in
    let p = two_is a b t e in
    let q = two_is c d o f in
    let hundreds : n / 100 ≡ t = omega (arith, q.1) in
    let rest : n % 100 ≡ o = omega (arith, q.1) in
    let same : (a ∷ b ∷ c ∷ d ∷ []) ≡ two_digits t ++ two_digits o =
    ap (λ (l : List ℕ). l ++ c ∷ d ∷ []) p.0 ∙ ap (λ (l : List ℕ). two_digits t ++ l) q.0 in (
      same ∙ ap (λ (k : ℕ). two_digits k ++ two_digits o) (sym hundreds) ∙ ap (λ (k : ℕ). two_digits (n / 100) ++ two_digits k) (sym rest),
      omega (arith, p.1, q.1),
    )

four_is : (a b c d n : ℕ) → value_of_four a b c d ≡ Some n → ((a ∷ b ∷ c ∷ d ∷ []) ≡ two_digits (n / 100) ++ two_digits (n % 100)) × (n ≤ 9999)
four_is a b c d n h = four_by a b c d n (value_of_two a b) (value_of_two c d) refl refl h

-- ---- texts

-- a date's text has its parts
pub parts_spelled : (year month day : ℕ) → year ≤ 9999 → month ≤ 99 → day ≤ 99
    → date_parts (date_text year month day) ≡ Some (record { year = year; month = month; day = day })
parts_spelled year month day a b c = rw (four_of year a, two_of month b, two_of day c) refl

-- the text is that of these parts
pub record Spells (text : List ℕ) (p : DateParts) : Type 0 where
  pub small : p.year ≤ 9999
  pub same : text ≡ date_text p.year p.month p.day

parts_by : (front : List ℕ) (p : DateParts) (y : ℕ) (m d : Option ℕ) (a b e f : ℕ)
    → front ≡ two_digits (y / 100) ++ two_digits (y % 100) → y ≤ 9999 → value_of_two a b ≡ m → value_of_two e f ≡ d
    → parts_of (Some y) m d ≡ Some p → Spells (front ++ 45 ∷ a ∷ b ∷ 45 ∷ e ∷ f ∷ []) p
parts_by front p y None d a b e f g n h k w = cc w
parts_by front p y (Some m) None a b e f g n h k w = cc w
parts_by front p y (Some m) (Some d) a b e f g n h k w =
    let parts : record { year = y; month = m; day = d } ≡ p = cc w in
    let four = two_digits (y / 100) ++ two_digits (y % 100) in
    let text : front ++ 45 ∷ a ∷ b ∷ 45 ∷ e ∷ f ∷ [] ≡ date_text y m d =
    ap (λ (l : List ℕ). l ++ 45 ∷ a ∷ b ∷ 45 ∷ e ∷ f ∷ []) g
    ∙ ap (λ (l : List ℕ). four ++ 45 ∷ l ++ 45 ∷ e ∷ f ∷ []) (two_is a b m h).0
    ∙ ap (λ (l : List ℕ). four ++ 45 ∷ two_digits m ++ 45 ∷ l) (two_is e f d k).0 in
    subst (λ (q : DateParts). Spells (front ++ 45 ∷ a ∷ b ∷ 45 ∷ e ∷ f ∷ []) q) parts (record { small = n; same = text })

dashed : (dash other : ℕ) (t u : Bool) (o : Option DateParts) (p : DateParts) → (dash == 45) ≡ t → (other == 45) ≡ u
    → (if t && u then o else None) ≡ Some p → (dash ≡ 45) × (other ≡ 45) × (o ≡ Some p)
dashed dash other false u o p d e h = cc h
dashed dash other true false o p d e h = cc h
dashed dash other true true o p d e h = (grind (arith, nat_tests), grind (arith, nat_tests), h)

after_by : (a b c d : ℕ) (v : Option ℕ) (dash m n other e f : ℕ) (p : DateParts) → value_of_four a b c d ≡ v → (dash ≡ 45) × (other ≡ 45)
    × (parts_of v (value_of_two m n) (value_of_two e f) ≡ Some p) → Spells (a ∷ b ∷ c ∷ d ∷ dash ∷ m ∷ n ∷ other ∷ e ∷ f ∷ []) p
after_by a b c d None dash m n other e f p v h = absurd (cc h.2)
after_by a b c d (Some y) dash m n other e f p v h =
    let four = four_is a b c d y v in
    rw (h.0, h.1) (parts_by (a ∷ b ∷ c ∷ d ∷ []) p y (value_of_two m n) (value_of_two e f) m n e f four.0 four.1 refl refl h.2)

after_is : (a b c d : ℕ) (rest : List ℕ) (p : DateParts) → parts_after (value_of_four a b c d) rest ≡ Some p → Spells (a ∷ b ∷ c ∷ d ∷ rest) p
after_is a b c d (dash ∷ m ∷ n ∷ other ∷ e ∷ f ∷ []) p h =
    after_by a b c d (value_of_four a b c d) dash m n other e f p refl
    (dashed dash other (dash == 45) (other == 45) (parts_of (value_of_four a b c d) (value_of_two m n) (value_of_two e f)) p refl refl h)
after_is a b c d _ p h = absurd (cc h)

pub date_is : (text : List ℕ) (p : DateParts) → date_parts text ≡ Some p → Spells text p
date_is (a ∷ b ∷ c ∷ d ∷ rest) p h = after_is a b c d rest p h
date_is _ p h = absurd (cc h)

-- ---- dates

month_bound : (a b c : Bool) → (if a then (if b then 29 else 28) else (if c then 30 else 31)) ≤ 31
month_bound true true c = omega arith
month_bound true false c = omega arith
month_bound false b true = omega arith
month_bound false b false = omega arith

month_within : (y : ℤ) (m : ℕ) → days_in_month y m ≤ 31
month_within y m = month_bound (m == 2) (is_leap_year y) ((m == 4) || (m == 6) || (m == 9) || (m == 11))

is_date_is : (p : DateParts) → p.year ≤ 9999 → is_date p ≡ true → IsDate (pos p.year) (pos p.month) (pos p.day)
is_date_is p n h =
    let first = both_true (nat_le 1 p.month) _ h in
    let second = both_true (nat_le p.month 12) _ first.1 in
    let third = both_true (nat_le 1 p.day) (nat_le p.day (days_in_month (pos p.year) p.month)) second.1 in
    let a : 1 ≤ p.month = grind (arith, nat_tests, first.0) in
    let b : p.month ≤ 12 = grind (arith, nat_tests, second.0) in
    let c : 1 ≤ p.day = grind (arith, nat_tests, third.0) in
    let d : p.day ≤ days_in_month (pos p.year) p.month = grind (arith, nat_tests, third.1) in
    ((omega (arith, ints), omega (arith, ints)), (omega (arith, ints), omega (arith, ints)), (omega (arith, ints), omega (arith, ints)))

record IsSmallDate (p : DateParts) : Type 0 where
  year : p.year ≤ 9999
  month : p.month ≤ 99
  day : p.day ≤ 99
  date : is_date p ≡ true

is_small : (p : DateParts) → IsDate (pos p.year) (pos p.month) (pos p.day) → IsSmallDate p
is_small p h =
    let year : p.year ≤ 9999 = omega (arith, ints, h.0.1) in
    let low : 1 ≤ p.month = omega (arith, ints, h.1.0) in
    let high : p.month ≤ 12 = omega (arith, ints, h.1.1) in
    let first : 1 ≤ p.day = omega (arith, ints, h.2.0) in
    let last : p.day ≤ days_in_month (pos p.year) p.month = omega (arith, ints, h.2.1) in
    let bound = month_within (pos p.year) p.month in
    let a : nat_le 1 p.month ≡ true = grind (arith, nat_tests) in
    let b : nat_le p.month 12 ≡ true = grind (arith, nat_tests) in
    let c : nat_le 1 p.day ≡ true = grind (arith, nat_tests) in
    let d : nat_le p.day (days_in_month (pos p.year) p.month) ≡ true = grind (arith, nat_tests) in
    record { year = year; month = omega arith; day = omega arith; date = rw (a, b, c, d) refl }

-- ---- days

day_by : (text : List ℕ) (n : ℤ) (p : DateParts) (t : Bool) → Spells text p → is_date p ≡ t → (if t then Some (number_of p) else None) ≡ Some n → IsDay text n
day_by text n p false s t h = absurd (cc h)
day_by text n p true s t h =
    let counted : number_of p ≡ n = cc h in
    record { year = p.year; month = p.month; day = p.day; date = is_date_is p s.small t; spelled = s.same; counted = sym counted }

day_of_by : (text : List ℕ) (n : ℤ) (o : Option DateParts) → date_parts text ≡ o → day_of_parts o ≡ Some n → IsDay text n
day_of_by text n None e h = absurd (cc h)
day_of_by text n (Some p) e h = day_by text n p (is_date p) (date_is text p e) refl h

-- a text that has a number is that of its day
pub day_is : (text : List ℕ) (n : ℤ) → day_of text ≡ Some n → IsDay text n
unfolding day_of
day_is text n h = day_of_by text n (date_parts text) refl h

-- a day's text has its number
pub day_only : (text : List ℕ) (n : ℤ) → IsDay text n → day_of text ≡ Some n
unfolding day_of
day_only text n d =
    let p : DateParts = record { year = d.year; month = d.month; day = d.day } in
    let s = is_small p d.date in
    rw (d.spelled, parts_spelled d.year d.month d.day s.year s.month s.day, s.date) (ap Some (sym d.counted))

-- the date that was made of a text's parts
pub made : (text : List ℕ) (p : DateParts) (date : Date) (n : ℤ) → date_parts text ≡ Some p → IsDate (pos p.year) (pos p.month) (pos p.day)
    → IsYmd (pos p.year) (pos p.month) (pos p.day) date → n ≡ epoch_day date → day_of text ≡ Some n
made text p date n e d y c =
    let month : date.month ≡ p.month = cc (y.1) in
    let day : date.day ≡ p.day = cc (y.2) in
    day_only text n (record {
      year = p.year;
      month = p.month;
      day = p.day;
      date = d;
      spelled = (date_is text p e).same;
      counted = c ∙ rw (y.0, month, day) refl;
    })

unmade_by : (p : DateParts) (t : Bool) → is_date p ≡ t → (is_date p ≡ true → ⊥) → (if t then Some (number_of p) else None) ≡ None
unmade_by p false e n = refl
unmade_by p true e n = absurd (n e)

-- no date was made of them
pub unmade : (text : List ℕ) (p : DateParts) → date_parts text ≡ Some p → (IsDate (pos p.year) (pos p.month) (pos p.day) → ⊥) → day_of text ≡ None
unfolding day_of
unmade text p e n = rw e (unmade_by p (is_date p) refl (λ t. n (is_date_is p (date_is text p e).small t)))

pub no_parts : (text : List ℕ) → date_parts text ≡ None → day_of text ≡ None
unfolding day_of
no_parts text e = rw e refl
