-- Which texts are names, and the words by which refused constructs are shown.
use Rattle.std.specs.Prelude.{ℕ, Bool, true, false, not, ◌==◌, ◌&&◌, ◌||◌, nat_le, nat_lt, if◌then◌else◌, List, [], ◌∷◌, length, codes}
use Rattle.std.specs.Str.{bytes_eq}
use Rattle.std.specs.List.{list_all, list_any}
use Rattle.text_scan.specs.declared.limits.Limits.{Limits}

-- ( ) { } ; , " = ' \
unfoldable pub is_no_name_byte : ℕ → Bool
is_no_name_byte b = b == 40 || b == 41 || b == 123 || b == 125 || b == 59 || b == 44 || b == 34 || b == 61 || b == 39 || b == 92

unfoldable pub is_name_byte : ℕ → Bool
is_name_byte b = nat_le 33 b && (nat_le b 126 && (if is_no_name_byte b then false else true))

-- a lone - or *
unfoldable pub is_mark : List ℕ → Bool
is_mark bs = bytes_eq bs (45 ∷ []) || bytes_eq bs (42 ∷ [])

abbrev pub has_name_bytes : List ℕ → Bool
has_name_bytes bs = list_all is_name_byte bs

-- a name, but for its greatest length, which is a limit
unfoldable pub is_name : List ℕ → Bool
is_name bs = nat_lt 0 (length bs) && (has_name_bytes bs && (if is_mark bs then false else true))

abbrev pub is_too_long : Limits → List ℕ → Bool
is_too_long limits name = nat_lt limits.name (length name)

-- a name that the limit allows
abbrev pub is_name_within : Limits → List ℕ → Bool
is_name_within limits name = is_name name && nat_le (length name) limits.name

-- no name stands twice
abbrev pub is_distinct : List (List ℕ) → Bool
is_distinct [] = true
is_distinct (name ∷ names) = not (list_any (bytes_eq name) names) && is_distinct names

abbrev pub is_graphic : ℕ → Bool
is_graphic b = nat_le 33 b && nat_le b 126

abbrev pub are_graphic : List ℕ → Bool
are_graphic w = list_all is_graphic w

abbrev pub is_shown : List ℕ → Bool
is_shown w = nat_lt 0 (length w) && (nat_le (length w) 128 && are_graphic w)

-- a word that can't be shown is wide
abbrev pub shown_word : List ℕ → List ℕ
shown_word w = if is_shown w then w else codes "wide"

-- a string that is no name is shown as string
abbrev pub shown_string : List ℕ → List ℕ
shown_string s = if is_name s && nat_le (length s) 128 then s else codes "string"
