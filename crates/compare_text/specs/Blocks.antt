-- What a compare text says of cells, and that it is so.
use Rattle.std.specs.Prelude.{◌≡◌, ℕ, List, slice_get, Some, codes}
use Rattle.liberty_source.specs.declared.Library.{Library}
use Rattle.liberty_source.specs.declared.CellPart.{CellPart}
use Rattle.liberty_source.specs.Library.{cell_name}
use Rattle.verilog_source.specs.declared.Source.{Source}
use Rattle.cell_compare.specs.Equal.{IsEqualPart}
use Rattle.compare_text.specs.Said.{SaidCell, lines_of, cells_said}

-- the cells that a compare text speaks of
abbrev pub cells_compared : List ℕ → List SaidCell
cells_compared text = cells_said (codes "compare ") (lines_of text)

-- What is said is said of the library's cell with this place, and where it says `equal` the cell is equal: each output
-- that Liberty defines has its value in Verilog, at every vector of input values.
pub record IsSaidTruly (library : Library) (source : Source) (k : ℕ) (said : SaidCell) : Type 0 where
  pub part : CellPart
  pub is_cell : slice_get library.cells k ≡ Some part
  pub name : said.name ≡ cell_name part
  pub equal : said.verdict ≡ Some (codes "equal") → IsEqualPart part source

-- For every k, the k-th line that begins with `compare ` names the k-th cell of the library, and where the first line
-- behind it that begins with `verdict ` is `verdict equal`, that cell is equal.
abbrev pub SaysEqualTruly : Library → Source → List ℕ → Type 0
SaysEqualTruly library source text = (k : ℕ) (said : SaidCell) → slice_get (cells_compared text) k ≡ Some said → IsSaidTruly library source k said
