-- The records of a text of comma-separated values.
use Rattle.std.specs.Prelude.{◌≡◌, ◌+◌, ◌∷◌, ℕ, Bool, true, false, List, [], length, Option, Some}
use Rattle.std.specs.Borrow.{Bor}
use Rattle.csv.specs.Machine.{ends_at_end}
use Rattle.csv.specs.Reading.{Ready, default_config, is_flexible, reader_config, reader_state, reader_trim, records, records_from, source_of, strip_bom}
use Rattle.csv.specs.declared.parser.State.{State}
use Rattle.csv.specs.declared.reader.Reader.{Reader}
use Rattle.csv.specs.declared.reader.Trim.TheVariants as trim

-- the records of the bytes from a state between two records
abbrev pub left_of : State → List ℕ → List (List (List ℕ))
left_of s xs = records_from default_config (length xs + 1) s xs

-- the records of the text in its order, each the list of its fields, after a byte order mark
unfoldable pub records_of : List ℕ → List (List (List ℕ))
records_of text = records default_config (strip_bom text)

-- the bytes that a slice has left
abbrev pub known : Bor (List ℕ) → Option (List ℕ)
known s = Some s.now

-- the reader has these records left
pub record HasLeft (reader : Reader (Bor (List ℕ))) (rows : List (List (List ℕ))) : Type 0 where
  pub ready : Ready reader
  pub plain : reader_trim reader ≡ trim.None
  pub config : reader_config reader ≡ default_config
  pub flexible : is_flexible reader ≡ true
  pub between : ends_at_end (reader_state reader) ≡ false
  pub bytes : List ℕ
  pub source : source_of known reader ≡ Some bytes
  pub gives : rows ≡ left_of (reader_state reader) bytes

-- the reader had the rows left: it gave the first one, which has these fields, or there was none
abbrev pub Gave : Bool → List (List ℕ) → List (List (List ℕ)) → Reader (Bor (List ℕ)) → Type 0
Gave true fields rows reader = (rest : List (List (List ℕ))) × (rows ≡ fields ∷ rest) × HasLeft reader rest
Gave false fields rows reader = rows ≡ []
