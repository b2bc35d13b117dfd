-- Which waiver covers a finding.
use Rattle.std.specs.Prelude.{ℕ, ◌+◌, Bool, ◌&&◌, ◌||◌, min, List, [], ◌∷◌, map, Option, Some, None, ℤ}
use Rattle.std.specs.List.{position_from}
use Rattle.std.specs.Int.Signed.{le_z}
use Rattle.std.specs.Option.{option_map}
use Rattle.std.specs.Str.{bytes_eq}
use Rattle.verdict_text.specs.Words.{code_word}
use Rattle.verdict_text.specs.declared.finding.Code.{Code}
use Rattle.verdict_text.specs.declared.finding.Finding.{Finding}
use Rattle.verdict_text.specs.declared.verdict.CellResult.{CellResult}
use Rattle.verdict_text.specs.declared.verdict.Verdict.{Verdict}
use Rattle.verdict_text.specs.declared.verdict.Verdict.TheVariants.{Checked, Unchecked, Refused}
use Rattle.waiver_source.specs.Places.{first_place}
use Rattle.waiver_source.specs.Waivers.{is_dash, is_star}
use Rattle.waiver_source.specs.declared.waiver.Waiver.{Waiver}

-- the word is * or the cell's name
abbrev pub is_for_cell : List ℕ → List ℕ → Bool
is_for_cell cell word = is_star word || bytes_eq word cell

-- the word is * or the pin's name; for a finding without a pin it is * or -
abbrev pub is_for_pin : Option (List ℕ) → List ℕ → Bool
is_for_pin (Some pin) word = is_star word || bytes_eq word pin
is_for_pin None word = is_star word || is_dash word

-- The waiver covers the finding of the cell on the day: it is for the cell, for the finding's code and for its pin, and
-- its last day isn't before the day.
abbrev pub covers : List ℕ → ℤ → Finding → Waiver → Bool
covers cell day f w =
    is_for_cell cell w.cell && (bytes_eq (code_word w.code) (code_word f.code) && (is_for_pin f.pin w.pin && le_z day w.last))

abbrev pub star : List ℕ
star = 42 ∷ []

-- the word that stands in a waiver for the pin: its name, or -
abbrev pub pin_word : Option (List ℕ) → List ℕ
pin_word (Some pin) = pin
pin_word None = 45 ∷ []

-- the place of the first waiver that covers the finding, from 0
abbrev pub first_cover : List Waiver → List ℕ → ℤ → Finding → Option ℕ
first_cover waivers cell day f = position_from (covers cell day f) 0 waivers

-- the lesser of two places, where any is there
abbrev pub earlier : Option ℕ → Option ℕ → Option ℕ
earlier None place = place
earlier (Some place) None = Some place
earlier (Some place) (Some other) = Some (min place other)

-- of the waivers with this word for cells, this code and a last day that isn't before the day, the first with this word for
-- pins or *
abbrev pub first_with : List Waiver → List ℕ → Code → List ℕ → ℤ → Option ℕ
first_with waivers cell code pin day = earlier (first_place waivers cell code pin day) (first_place waivers cell code star day)

-- numbers count from 1; from 4,294,967,295 on all are told as that
abbrev pub number_at : ℕ → ℕ
number_at place = min (place + 1) 4294967295

-- the number of the first waiver that covers the finding, and none exactly where no waiver does
abbrev pub waiver_for : List Waiver → List ℕ → ℤ → Finding → Option ℕ
waiver_for waivers cell day f = option_map number_at (first_cover waivers cell day f)

-- without a day no waiver covers anything
abbrev pub waiver_on : List Waiver → List ℕ → Option ℤ → Finding → Option ℕ
waiver_on waivers cell None f = None
waiver_on waivers cell (Some day) f = waiver_for waivers cell day f

-- the finding with its waiver, and nothing else of it changed
abbrev pub waived : List Waiver → List ℕ → Option ℤ → Finding → Finding
waived waivers cell day f = record f { waiver = waiver_on waivers cell day f }

abbrev pub all_waived : List Waiver → List ℕ → Option ℤ → List Finding → List Finding
all_waived waivers cell day findings = map (waived waivers cell day) findings

abbrev pub verdict_waived : List Waiver → List ℕ → Option ℤ → Verdict → Verdict
verdict_waived waivers cell day (Checked rows defined findings) = Checked rows defined (all_waived waivers cell day findings)
verdict_waived waivers cell day (Unchecked findings) = Unchecked (all_waived waivers cell day findings)
verdict_waived waivers cell day (Refused reason) = Refused reason

-- the cell's result: its verdict, each of whose findings has its waiver
abbrev pub result_of : List Waiver → List ℕ → Option ℤ → Verdict → CellResult
result_of waivers cell day verdict = record { name = cell; verdict = verdict_waived waivers cell day verdict }
