-- What lines add to the tables of a file, or why it is refused.
use Rattle.std.specs.Borrow.{Bor}
use Rattle.std.specs.Prelude.{◌≡◌, ℕ, nat_le, if◌then◌else◌, List, [], ◌∷◌, ◌++◌, length, Option, Some, None, Result, Ok, Err}
use Rattle.name_index.specs.Places.{is_known}
use Rattle.text_scan.specs.declared.limits.Limits.{Limits}
use Rattle.text_scan.specs.declared.limits.LimitKind.TheVariants as limit_kinds
use Rattle.text_scan.specs.declared.refusal.FileRefusal.{FileRefusal}
use Rattle.text_scan.specs.declared.refusal.FileRefusal.TheVariants as refusals
use Rattle.text_scan.specs.declared.token.Token.{Token}
use Rattle.file_rules.specs.Refusals.{at_token, too_many}
use Rattle.file_rules.specs.Told.{TellsSome}
use Rattle.grammar.specs.Reading.{◌>>=◌}
use Rattle.correspondence.specs.Lines.{PlacedWord, Line}
use Rattle.correspondence.specs.Kinds.{kind_of_line}
use Rattle.correspondence.specs.Words.{behind, first_of, line_number, more_refusal, name_refusal, names_of, row_of, unless}
use Rattle.correspondence.specs.Parts.{made, no_table, with_names}
use Rattle.correspondence.specs.declared.kinds.LineKind.{LineKind}
use Rattle.correspondence.specs.declared.kinds.LineKind.TheVariants as kinds
use Rattle.correspondence.specs.declared.table.OpenTable.{OpenTable}
use Rattle.correspondence.specs.declared.parts.Parts.{Parts}

-- ---- the first line of a table

abbrev pub double_name : PlacedWord → FileRefusal
double_name w = refusals.DoubleName w.bytes w.token.span.line

-- why a word can't name the cell of a table
abbrev pub new_name_refusal : Limits → List (List ℕ) → PlacedWord → Option FileRefusal
new_name_refusal limits names w = first_of (name_refusal limits w) (if is_known w.bytes names then Some (double_name w) else None)

-- why the words of the line are refused: its name, or a word behind it
unfoldable pub cell_refusal : Limits → List (List ℕ) → List PlacedWord → Token → Option FileRefusal
cell_refusal limits names [] ending = Some (at_token ending)
cell_refusal limits names (w ∷ ws) ending = first_of (new_name_refusal limits names w) (more_refusal ws)

abbrev pub cell_of : List PlacedWord → List ℕ
cell_of [] = []
cell_of (w ∷ ws) = w.bytes

-- the name was read, or this is the refusal
abbrev pub ReadCell : Limits → List (List ℕ) → List PlacedWord → Token → Result (Bor (List ℕ)) FileRefusal → Type 0
ReadCell limits names ws ending (Ok cell) = (cell_refusal limits names ws ending ≡ None) × (cell_of ws ≡ cell.now)
ReadCell limits names ws ending (Err refusal) = TellsSome refusal (cell_refusal limits names ws ending)

abbrev pub table_of : ℕ → List ℕ → OpenTable
table_of line cell = record no_table { cell = cell; line = line }

-- a table of this cell on this line
abbrev pub opened : ℕ → List ℕ → Parts → Parts
opened line cell s = record s { names = s.names ++ cell ∷ []; current = table_of line cell }

unfoldable pub begin : Limits → ℕ → List PlacedWord → Token → Parts → Result Parts FileRefusal
begin limits line ws ending s =
    if nat_le limits.cells (length s.tables) then Err (too_many limits limit_kinds.Cells)
    else unless (cell_refusal limits s.names ws ending) (opened line (cell_of ws) s)

-- ---- the other lines

unfoldable pub add_names : Limits → LineKind → ℕ → List PlacedWord → Parts → Result Parts FileRefusal
add_names limits kind line ws s = names_of limits line ws >>= λ n. Ok (record s { current = with_names kind n s.current })

unfoldable pub add_row : ℕ → List PlacedWord → Token → Parts → Result Parts FileRefusal
add_row line ws ending s = row_of line ws ending >>= λ r. Ok (record s { current = record s.current { rows = s.current.rows ++ r ∷ [] } })

unfoldable pub close : List PlacedWord → Parts → Result Parts FileRefusal
close ws s = unless (more_refusal ws) (record s { tables = s.tables ++ made s.current ∷ []; current = no_table })

-- what a line of this kind and number adds, whose words behind the first are these
abbrev pub enter_by : Limits → LineKind → ℕ → List PlacedWord → Token → Parts → Result Parts FileRefusal
enter_by limits kinds.Table line ws ending s = begin limits line ws ending s
enter_by limits kinds.Pins line ws ending s = add_names limits kinds.Pins line ws s
enter_by limits kinds.Xpins line ws ending s = add_names limits kinds.Xpins line ws s
enter_by limits kinds.State line ws ending s = add_names limits kinds.State line ws s
enter_by limits kinds.Udps line ws ending s = add_names limits kinds.Udps line ws s
enter_by limits kinds.Nodes line ws ending s = add_names limits kinds.Nodes line ws s
enter_by limits kinds.Row line ws ending s = add_row line ws ending s
enter_by limits kinds.End line ws ending s = close ws s
enter_by limits kinds.Other line ws ending s = Ok s

-- what a line adds
unfoldable pub enter : Limits → Line → Parts → Result Parts FileRefusal
enter limits l s = enter_by limits (kind_of_line l) (line_number l) (behind l.words) l.ending s
