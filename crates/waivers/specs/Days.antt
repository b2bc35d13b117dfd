-- Days and the texts of their dates.
use Rattle.std.specs.Prelude.{◌≡◌, ℕ, Bool, ◌+◌, ◌*◌, ◌-◌, ◌/◌, ◌%◌, ◌==◌, ◌&&◌, nat_le, if◌then◌else◌, List, [], ◌∷◌, ◌++◌, Option, Some, None, ℤ, pos}
use Rattle.std.specs.Char.{is_ascii_digit}
use Rattle.jiff_core.specs.Calendar.{IsDate, days_from_civil, days_in_month}
use Rattle.waivers.specs.declared.date_parts.DateParts.{DateParts}

-- ---- dates

abbrev pub two_digits : ℕ → List ℕ
two_digits n = (48 + n / 10) ∷ (48 + n % 10) ∷ []

-- as YYYY-MM-DD
abbrev pub date_text : ℕ → ℕ → ℕ → List ℕ
date_text year month day = two_digits (year / 100) ++ two_digits (year % 100) ++ 45 ∷ two_digits month ++ 45 ∷ two_digits day

-- The text is that of a date from 0000-01-01 to 9999-12-31, and the day has this number; that of 1970-01-01 is 0.
pub record IsDay (text : List ℕ) (number : ℤ) : Type 0 where
  pub year : ℕ
  pub month : ℕ
  pub day : ℕ
  pub date : IsDate (pos year) (pos month) (pos day)
  pub spelled : text ≡ date_text year month day
  pub counted : number ≡ days_from_civil (pos year) month day

-- ---- what is read of a text

abbrev pub digit : ℕ → Option ℕ
digit byte = if is_ascii_digit byte then Some (byte - 48) else None

-- a value and one of less than the base that follows it; none where one is missing
abbrev pub followed_by : ℕ → Option ℕ → Option ℕ → Option ℕ
followed_by base (Some first) (Some rest) = Some (base * first + rest)
followed_by base _ _ = None

abbrev pub value_of_two : ℕ → ℕ → Option ℕ
value_of_two a b = followed_by 10 (digit a) (digit b)

abbrev pub value_of_four : ℕ → ℕ → ℕ → ℕ → Option ℕ
value_of_four a b c d = followed_by 100 (value_of_two a b) (value_of_two c d)

abbrev pub parts_of : Option ℕ → Option ℕ → Option ℕ → Option DateParts
parts_of (Some year) (Some month) (Some day) = Some (record { year = year; month = month; day = day })
parts_of _ _ _ = None

-- behind a year's value: - and two digits, twice
abbrev pub parts_after : Option ℕ → List ℕ → Option DateParts
parts_after year (dash ∷ a ∷ b ∷ other ∷ c ∷ d ∷ []) =
    if (dash == 45) && (other == 45) then parts_of year (value_of_two a b) (value_of_two c d) else None
parts_after year _ = None

-- four digits, - and two digits, - and two digits
abbrev pub date_parts : List ℕ → Option DateParts
date_parts (a ∷ b ∷ c ∷ d ∷ rest) = parts_after (value_of_four a b c d) rest
date_parts _ = None

-- the calendar has the date
abbrev pub is_date : DateParts → Bool
is_date p =
    nat_le 1 p.month && (nat_le p.month 12 && (nat_le 1 p.day && nat_le p.day (days_in_month (pos p.year) p.month)))

abbrev pub number_of : DateParts → ℤ
number_of p = days_from_civil (pos p.year) p.month p.day

abbrev pub day_of_parts : Option DateParts → Option ℤ
day_of_parts None = None
day_of_parts (Some p) = if is_date p then Some (number_of p) else None

-- the number of the day whose date the text is
unfoldable pub day_of : List ℕ → Option ℤ
day_of text = day_of_parts (date_parts text)
