-- What a list of records is read as.
use Rattle.std.specs.Prelude.{ℕ, ◌+◌, List, [], ◌∷◌, length, filter_map, Option, Some, None, Result, ℤ}
use Rattle.text_scan.specs.declared.limits.Limits.{Limits}
use Rattle.text_scan.specs.declared.refusal.FileRefusal.{FileRefusal}
use Rattle.verdict_text.specs.declared.finding.Code.{Code}
use Rattle.verdict_text.specs.Told.{told_code}
use Rattle.csv_records.specs.Answers.{answer, first_refusal}
use Rattle.waiver_source.specs.declared.waiver.Waiver.{Waiver}
use Rattle.waivers.specs.Days.{day_of}
use Rattle.waivers.specs.Fields.{wrong}

-- why a record is refused after others, if it is
abbrev pub refuses : Limits → List (List (List ℕ)) → List (List ℕ) → Option FileRefusal
refuses limits before row = wrong limits (length before + 1) row

abbrev pub waiver_by : List ℕ → Option Code → List ℕ → Option ℤ → List ℕ → Option Waiver
waiver_by cell (Some code) pin (Some last) reason =
    Some (record { cell = cell; code = code; pin = pin; last = last; reason = reason })
waiver_by cell _ pin _ reason = None

-- the waiver that a record gives, if it is one
abbrev pub waiver_of : List (List ℕ) → Option Waiver
waiver_of (cell ∷ code ∷ pin ∷ day ∷ reason ∷ []) = waiver_by cell (told_code code) pin (day_of day) reason
waiver_of _ = None

-- in the order of the records
abbrev pub waivers_of : List (List (List ℕ)) → List Waiver
waivers_of rows = filter_map waiver_of rows

-- the first refusal where there is one, else the waivers
unfoldable pub told : Limits → List (List (List ℕ)) → Result (List Waiver) FileRefusal
told limits rows = answer (first_refusal limits (refuses limits) [] rows) (waivers_of rows)
