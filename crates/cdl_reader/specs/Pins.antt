-- Directions of pins.
use Rattle.std.specs.Prelude.{◌≡◌, ℕ, ◌-◌, ◌==◌, ◌||◌, if◌then◌else◌, List, [], ◌∷◌, ◌++◌, length, take, drop, map, filter_map, slice_get, unwrap_or, Option, Some, None}
use Rattle.std.specs.Str.{bytes_eq}
use Rattle.text_scan.specs.declared.pins.Direction.{Direction}
use Rattle.text_scan.specs.declared.pins.Direction.TheVariants as directions
use Rattle.cdl_cards.specs.Words.{PlacedWord}

-- the direction that a letter tells, of whatever case
unfoldable pub direction_by : ℕ → Option Direction
direction_by b =
    if b == 73 || b == 105 then Some directions.Input
    else if b == 79 || b == 111 then Some directions.Output
    else if b == 66 || b == 98 then Some directions.Inout
    else None

abbrev pub for_pin : List ℕ → Option Direction → Option (List ℕ × Direction)
for_pin pin None = None
for_pin pin (Some d) = Some (pin, d)

-- what a colon and a letter tell of the pin before them
abbrev pub told_by_end : List ℕ → List ℕ → Option (List ℕ × Direction)
told_by_end pin (c ∷ b ∷ []) = if c == 58 then for_pin pin (direction_by b) else None
told_by_end pin _ = None

-- what a word PIN:LETTER tells
unfoldable pub told_by : List ℕ → Option (List ℕ × Direction)
told_by bytes = told_by_end (take (length bytes - 2) bytes) (drop (length bytes - 2) bytes)

abbrev pub told_by_word : PlacedWord → Option (List ℕ × Direction)
told_by_word w = told_by w.bytes

-- what some words tell, in their order
abbrev pub told_by_words : List PlacedWord → List (List ℕ × Direction)
told_by_words ws = filter_map told_by_word ws

-- a list from its end
unfoldable pub flipped : {X : Type 0} → List X → List X
flipped [] = []
flipped (x ∷ xs) = flipped xs ++ x ∷ []

-- what is told of the pin first
unfoldable pub first_told : List ℕ → List (List ℕ × Direction) → Direction
first_told pin [] = directions.Absent
first_told pin (t ∷ ts) = if bytes_eq pin t.0 then t.1 else first_told pin ts

-- of what is told of a pin the last counts
unfoldable pub direction_of : List (List ℕ × Direction) → List ℕ → Direction
direction_of told pin = first_told pin (flipped told)

abbrev pub directed_pin : List (List ℕ × Direction) → List ℕ → List ℕ × Direction
directed_pin told pin = (pin, direction_of told pin)

-- the pins with their directions
abbrev pub directed : List (List ℕ × Direction) → List (List ℕ) → List (List ℕ × Direction)
directed told pins = map (directed_pin told) pins

-- the direction at a place
abbrev pub direction_at : List Direction → Option ℕ → Direction
direction_at ds None = directions.Absent
direction_at ds (Some p) = unwrap_or (slice_get ds p) directions.Absent

abbrev pub told_pin : List ℕ × Direction → List ℕ
told_pin t = t.0

abbrev pub told_direction : List ℕ × Direction → Direction
told_direction t = t.1

-- what is told of pins, the last first
pub record IsLastFirst (told : List (List ℕ × Direction)) (ns : List (List ℕ)) (ds : List Direction) : Type 0 where
  pub names : ns ≡ map told_pin (flipped told)
  pub directions : ds ≡ map told_direction (flipped told)
