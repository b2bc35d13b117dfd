-- Cells by their state group, with the functions or the rows that their texts say.
use Rattle.std.specs.Prelude.{◌≡◌, ℕ, List}
use Rattle.tern_core.specs.declared.tern.Tern.{Tern}
use Rattle.liberty_source.specs.declared.LibertyCell.{LibertyCell}
use Rattle.liberty_source.specs.declared.FfText.{FfText}
use Rattle.liberty_source.specs.declared.LatchText.{LatchText}
use Rattle.liberty_source.specs.declared.RowsText.{RowsText}
use Rattle.liberty_source.specs.declared.StateGroup.TheVariants.{Stateless, Ff, Latch, Rows}
use Rattle.liberty_function.specs.declared.program.Source.{Source}
use Rattle.liberty_meaning.specs.declared.table.Row.{Row}
use Rattle.liberty_meaning.specs.declared.behaviour.Behaviour.{Behaviour}
use Rattle.liberty_meaning.specs.Names.{names_of}
use Rattle.liberty_meaning.specs.PairMeaning.{Functions, AreFunctions}
use Rattle.liberty_meaning.specs.TableMeaning.{AreColumns, AreRows}
use Rattle.liberty_meaning.specs.Behaviour.{inputs_of, states_of, outputs_of, output_value, next_state}
use Rattle.liberty_meaning.specs.Cell.{Means}

-- two behaviours whose calls answer the same
pub record SameMeaning (b c : Behaviour) : Type 0 where
  pub inputs : inputs_of b ≡ inputs_of c
  pub states : states_of b ≡ states_of c
  pub outputs : outputs_of b ≡ outputs_of c
  pub output : (k : ℕ) (pins state : List Tern) → output_value b k pins state ≡ output_value c k pins state
  pub next : (old new state : List Tern) → next_state b old new state ≡ next_state c old new state

-- a cell without a state group, and what it does
pub record IsStateless (cell : LibertyCell) (b : Behaviour) : Type 0 where
  pub means : Means cell b
  pub group : cell.state ≡ Stateless

-- a flip-flop with the functions that its texts spell
pub record IsFlipFlop (cell : LibertyCell) (ff : FfText) (fs : Functions) (b : Behaviour) : Type 0 where
  pub means : Means cell b
  pub group : cell.state ≡ Ff ff
  pub are : AreFunctions (names_of cell) ff.clocked_on ff.next_state ff.clear ff.preset fs

-- a latch with the functions that its texts spell
pub record IsLatched (cell : LibertyCell) (latch : LatchText) (fs : Functions) (b : Behaviour) : Type 0 where
  pub means : Means cell b
  pub group : cell.state ≡ Latch latch
  pub are : AreFunctions (names_of cell) latch.enable latch.data_in latch.clear latch.preset fs

-- a state table with the columns and the rows that its texts say
pub record IsTable (cell : LibertyCell) (r : RowsText) (columns : List Source) (rows : List Row) (b : Behaviour) : Type 0 where
  pub means : Means cell b
  pub group : cell.state ≡ Rows r
  pub are_columns : AreColumns cell.pins r columns
  pub are_rows : AreRows r rows
