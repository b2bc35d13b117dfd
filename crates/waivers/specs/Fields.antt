-- What the fields of a waiver's record may be, and the first that is wrong.
use Rattle.std.specs.Prelude.{ℕ, ◌||◌, is_some, if◌then◌else◌, List, [], ◌∷◌, Option, Some, None}
use Rattle.text_scan.specs.declared.limits.Limits.{Limits}
use Rattle.text_scan.specs.declared.refusal.FileRefusal.{FileRefusal}
use Rattle.text_scan.specs.declared.refusal.FileRefusal.TheVariants as refusals
use Rattle.verdict_text.specs.Told.{told_code}
use Rattle.csv_records.specs.Fields.{first_of, named, unless}
use Rattle.waiver_source.specs.Waivers.{is_dash, is_reason, is_star}
use Rattle.waivers.specs.Days.{day_of}

-- * or a name
unfoldable pub wrong_cell : Limits → ℕ → List ℕ → Option FileRefusal
wrong_cell limits line field = if is_star field then None else named limits line 1 field

-- *, - or a name
unfoldable pub wrong_pin : Limits → ℕ → List ℕ → Option FileRefusal
wrong_pin limits line field = if is_star field || is_dash field then None else named limits line 3 field

abbrev pub wrong_of_five : Limits → ℕ → List ℕ → List ℕ → List ℕ → List ℕ → List ℕ → Option FileRefusal
wrong_of_five limits line cell code pin day reason =
    first_of (wrong_cell limits line cell)
    (first_of (unless (is_some (told_code code)) line 2)
    (first_of (wrong_pin limits line pin)
    (first_of (unless (is_some (day_of day)) line 4)
    (unless (is_reason reason) line 5))))

-- what is wrong with a record: another number of fields than five, at column 0, else its first wrong field
abbrev pub wrong : Limits → ℕ → List (List ℕ) → Option FileRefusal
wrong limits line (cell ∷ code ∷ pin ∷ day ∷ reason ∷ []) = wrong_of_five limits line cell code pin day reason
wrong limits line _ = Some (refusals.Syntax line 0)
