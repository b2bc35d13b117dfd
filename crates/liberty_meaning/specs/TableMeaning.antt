-- The table that a statetable's text gives, and what is refused in it.
use Rattle.std.specs.Prelude.{◌≡◌, ℕ, ◌+◌, List, [], ◌∷◌, ◌++◌, length, Option, Some, None, Result, Ok, Err, ◌⊎◌}
use Rattle.liberty_function.specs.declared.program.Source.{Source}
use Rattle.liberty_function.specs.Sources.{Named, source_among}
use Rattle.liberty_source.specs.declared.LibertyPin.{LibertyPin}
use Rattle.liberty_source.specs.declared.RowsText.{RowsText}
use Rattle.liberty_meaning.specs.declared.table.Row.{Row}
use Rattle.liberty_meaning.specs.declared.table.Table.{Table}
use Rattle.liberty_meaning.specs.declared.table_text.RowWords.{RowWords}
use Rattle.liberty_meaning.specs.declared.refusal.MeaningRefusal.{MeaningRefusal}
use Rattle.liberty_meaning.specs.declared.refusal.MeaningRefusal.TheVariants as refusal
use Rattle.liberty_meaning.specs.Names.{inputs_from}
use Rattle.liberty_meaning.specs.Table.{made}
use Rattle.liberty_meaning.specs.TableText.{rows_of}
use Rattle.liberty_meaning.specs.Meaning.{told, UnlessMemory}

abbrev pub appended : Option (List Row) → Option (List Row) → Option (List Row)
appended None more = None
appended (Some a) None = None
appended (Some a) (Some b) = Some (a ++ b)

-- the rows of all; nothing where one is no row
unfoldable pub all_made : ℕ → ℕ → List RowWords → Option (List Row)
all_made n m [] = Some []
all_made n m (t ∷ ts) = appended (made n m t.words) (all_made n m ts)

-- the first row that is none, counted from 1
pub record RefusesRows (n m : ℕ) (texts : List RowWords) (e : MeaningRefusal) : Type 0 where
  pub before : List RowWords
  pub bad : RowWords
  pub after : List RowWords
  pub whole : texts ≡ before ++ bad ∷ after
  pub rows : List Row
  pub good : all_made n m before ≡ Some rows
  pub refused : made n m bad.words ≡ None
  pub error : e ≡ refusal.BadStateRow (told (length before + 1))

abbrev pub IsRowsAnswer : ℕ → ℕ → List RowWords → Result (List Row) MeaningRefusal → Type 0
IsRowsAnswer n m texts (Ok rows) = all_made n m texts ≡ Some rows
IsRowsAnswer n m texts (Err e) = UnlessMemory e (RefusesRows n m texts e)

abbrev pub with_column : Option Source → Option (List Source) → Option (List Source)
with_column None more = None
with_column (Some s) None = None
with_column (Some s) (Some ss) = Some (s ∷ ss)

-- the input pins that the columns name; nothing where one names none
unfoldable pub columns_in : List Named → List (List ℕ) → Option (List Source)
columns_in inputs [] = Some []
columns_in inputs (n ∷ names) = with_column (source_among inputs n) (columns_in inputs names)

-- the first column that is no input pin
pub record RefusesColumns (inputs : List Named) (names : List (List ℕ)) (e : MeaningRefusal) : Type 0 where
  pub before : List (List ℕ)
  pub bad : List ℕ
  pub after : List (List ℕ)
  pub whole : names ≡ before ++ bad ∷ after
  pub columns : List Source
  pub good : columns_in inputs before ≡ Some columns
  pub refused : source_among inputs bad ≡ None
  pub error : e ≡ refusal.UnknownName bad

abbrev pub IsColumnsAnswer : List Named → List (List ℕ) → Result (List Source) MeaningRefusal → Type 0
IsColumnsAnswer inputs names (Ok columns) = columns_in inputs names ≡ Some columns
IsColumnsAnswer inputs names (Err e) = UnlessMemory e (RefusesColumns inputs names e)

-- the columns and the rows of a table's text
abbrev pub AreColumns : List LibertyPin → RowsText → List Source → Type 0
AreColumns pins r columns = columns_in (inputs_from 0 pins) r.inputs ≡ Some columns

abbrev pub AreRows : RowsText → List Row → Type 0
AreRows r rows = all_made (length r.inputs) (length r.nodes) (rows_of r.table) ≡ Some rows

-- first the first column that is no input pin, then the first row that is none
abbrev pub RefusesTable : List LibertyPin → RowsText → MeaningRefusal → Type 0
RefusesTable pins r e =
    RefusesColumns (inputs_from 0 pins) r.inputs e
    ⊎ ((columns : List Source) × AreColumns pins r columns) × RefusesRows (length r.inputs) (length r.nodes) (rows_of r.table) e

-- the answer on a table
abbrev pub IsTableAnswer : List LibertyPin → RowsText → Result Table MeaningRefusal → Type 0
IsTableAnswer pins r (Ok t) = AreColumns pins r t.columns × AreRows r t.rows
IsTableAnswer pins r (Err e) = UnlessMemory e (RefusesTable pins r e)
