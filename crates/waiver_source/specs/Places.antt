-- Where a waiver stands among others.
use Rattle.std.specs.Prelude.{ℕ, Bool, ◌&&◌, ◌==◌, List, Option, ℤ}
use Rattle.std.specs.List.{position_from}
use Rattle.std.specs.Int.Signed.{le_z}
use Rattle.std.specs.Str.{bytes_eq}
use Rattle.verdict_text.specs.declared.finding.Code.{Code}
use Rattle.verdict_text.specs.Words.{code_word}
use Rattle.waiver_source.specs.declared.waiver.Waiver.{Waiver}

-- the waiver has this word for cells, this code and this word for pins, and its last day isn't before the day
abbrev pub is_of : List ℕ → Code → List ℕ → ℤ → Waiver → Bool
is_of cell code pin day w =
    bytes_eq w.cell cell && (bytes_eq (code_word w.code) (code_word code) && (bytes_eq w.pin pin && le_z day w.last))

-- the place of the first of them, from 0
abbrev pub first_place : List Waiver → List ℕ → Code → List ℕ → ℤ → Option ℕ
first_place waivers cell code pin day = position_from (is_of cell code pin day) 0 waivers
