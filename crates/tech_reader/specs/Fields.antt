-- What the fields of a record may be, and the first that is wrong.
use Rattle.std.specs.Prelude.{ℕ, Bool, false, ◌+◌, ◌-◌, ◌&&◌, ◌||◌, nat_le, if◌then◌else◌, List, [], ◌∷◌, codes, Option, Some, None}
use Rattle.std.specs.Str.{bytes_eq}
use Rattle.text_scan.specs.declared.limits.Limits.{Limits}
use Rattle.text_scan.specs.declared.refusal.FileRefusal.{FileRefusal}
use Rattle.text_scan.specs.declared.refusal.FileRefusal.TheVariants as refusals
use Rattle.csv_records.specs.Fields.{first_of, named, unless}
use Rattle.tech_reader.specs.declared.fields.Kind.{Kind}
use Rattle.tech_reader.specs.declared.fields.Kind.TheVariants as kinds

unfoldable pub is_channel : List ℕ → Bool
is_channel field = bytes_eq field (codes "n") || bytes_eq field (codes "p")

unfoldable pub is_supply_kind : List ℕ → Bool
is_supply_kind field = bytes_eq field (codes "power") || bytes_eq field (codes "ground")

-- a lone digit from least to most
abbrev pub is_digit_within : ℕ → ℕ → List ℕ → Bool
is_digit_within least most (d ∷ []) = nat_le (48 + least) d && nat_le d (48 + most)
is_digit_within least most _ = false

-- the value of a lone digit
abbrev pub digit : List ℕ → ℕ
digit (d ∷ []) = d - 48
digit _ = 0

-- the kind of record that a first field names
unfoldable pub kind_of : List ℕ → Option Kind
kind_of word =
    if bytes_eq word (codes "model") then Some kinds.Model
    else if bytes_eq word (codes "size") then Some kinds.Size
    else if bytes_eq word (codes "supply") then Some kinds.Supply
    else None

-- a model's name, its channel and its strength
abbrev pub wrong_in_model : Limits → ℕ → List ℕ → List ℕ → List ℕ → Option FileRefusal
wrong_in_model limits line name channel strength =
    first_of (named limits line 2 name) (first_of (unless (is_channel channel) line 3) (unless (is_digit_within 4 7 strength) line 4))

-- a size's cell, its node and its strength
abbrev pub wrong_in_size : Limits → ℕ → List ℕ → List ℕ → List ℕ → Option FileRefusal
wrong_in_size limits line cell node strength =
    first_of (named limits line 2 cell) (first_of (named limits line 3 node) (unless (is_digit_within 1 3 strength) line 4))

-- a supply's name, which supply it is, and a lone -
abbrev pub wrong_in_supply : Limits → ℕ → List ℕ → List ℕ → List ℕ → Option FileRefusal
wrong_in_supply limits line name kind last =
    first_of (named limits line 2 name) (first_of (unless (is_supply_kind kind) line 3) (unless (bytes_eq last (codes "-")) line 4))

-- the first wrong field of the four
abbrev pub wrong_of_four : Limits → ℕ → Option Kind → List ℕ → List ℕ → List ℕ → Option FileRefusal
wrong_of_four limits line None name third last = Some (refusals.Syntax line 1)
wrong_of_four limits line (Some kinds.Model) name third last = wrong_in_model limits line name third last
wrong_of_four limits line (Some kinds.Size) name third last = wrong_in_size limits line name third last
wrong_of_four limits line (Some kinds.Supply) name third last = wrong_in_supply limits line name third last

-- what is wrong with a record by itself: another number of fields than four, at column 0, else its first wrong field
abbrev pub wrong : Limits → ℕ → List (List ℕ) → Option FileRefusal
wrong limits line (kind ∷ name ∷ third ∷ last ∷ []) = wrong_of_four limits line (kind_of kind) name third last
wrong limits line _ = Some (refusals.Syntax line 0)
