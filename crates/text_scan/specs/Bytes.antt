-- Bytes, and what a text begins with.
use Rattle.std.specs.Prelude.{ℕ, suc, Bool, true, false, ◌||◌, ◌&&◌, ◌==◌, nat_le, if◌then◌else◌, List, [], ◌∷◌}

-- blank, tab and CR
unfoldable pub is_blank : ℕ → Bool
is_blank b = b == 32 || b == 9 || b == 13

-- blank, tab, CR and LF
unfoldable pub is_space : ℕ → Bool
is_space b = b == 32 || b == 9 || b == 13 || b == 10

-- ( ) { } ; : , "
unfoldable pub is_liberty_sign : ℕ → Bool
is_liberty_sign b = b == 40 || b == 41 || b == 123 || b == 125 || b == 59 || b == 58 || b == 44 || b == 34

unfoldable pub is_liberty_byte : ℕ → Bool
is_liberty_byte b = nat_le 33 b && (nat_le b 126 && (if is_liberty_sign b then false else true))

unfoldable pub is_digit : ℕ → Bool
is_digit b = nat_le 48 b && nat_le b 57

-- a letter or _
unfoldable pub is_letter : ℕ → Bool
is_letter b = (nat_le 97 b && nat_le b 122) || (nat_le 65 b && nat_le b 90) || b == 95

-- a letter, a digit, _ or $
unfoldable pub is_identifier_byte : ℕ → Bool
is_identifier_byte b = is_letter b || is_digit b || b == 36

-- a letter, a digit, _ . or '
unfoldable pub is_number_byte : ℕ → Bool
is_number_byte b = is_letter b || is_digit b || b == 46 || b == 39

-- the text begins with this byte
unfoldable pub begins_with : ℕ → List ℕ → Bool
begins_with c [] = false
begins_with c (b ∷ bs) = b == c

-- the text begins with these two bytes
unfoldable pub begins_with_pair : ℕ → ℕ → List ℕ → Bool
begins_with_pair c d [] = false
begins_with_pair c d (b ∷ bs) = b == c && begins_with d bs

-- the places before the first at which the text that begins there passes the test; all places where none does
unfoldable pub until : (List ℕ → Bool) → List ℕ → ℕ
until test [] = 0
until test (b ∷ bs) = if test (b ∷ bs) then 0 else suc (until test bs)
