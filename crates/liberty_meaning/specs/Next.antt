-- What the state group of a cell does when the input pins change.
use Rattle.std.specs.Prelude.{◌≡◌, ℕ, ◌==◌, if◌then◌else◌, List, slice_get, Option, Some, None}
use Rattle.tern_core.specs.declared.tern.Tern.{Tern}
use Rattle.tern_core.specs.declared.tern.Tern.TheVariants as tern
use Rattle.liberty_source.specs.declared.LibertyPin.{LibertyPin}
use Rattle.liberty_source.specs.declared.StateGroup.{StateGroup}
use Rattle.liberty_source.specs.declared.StateGroup.TheVariants.{Stateless, Ff, Latch, Rows}
use Rattle.liberty_function.specs.declared.program.Source.{Source}
use Rattle.liberty_function.specs.Sources.{Named, value_at}
use Rattle.liberty_meaning.specs.declared.pair.Pair.{Pair}
use Rattle.liberty_meaning.specs.declared.symbols.Symbol.{Symbol}
use Rattle.liberty_meaning.specs.declared.table.Row.{Row}
use Rattle.liberty_meaning.specs.declared.refusal.MeaningRefusal.{MeaningRefusal}
use Rattle.liberty_meaning.specs.Symbols.{next_value}
use Rattle.liberty_meaning.specs.Table.{first_matching}
use Rattle.liberty_meaning.specs.TableMeaning.{AreColumns, AreRows, RefusesTable}
use Rattle.liberty_meaning.specs.PairMeaning.{NextPair, IsFf, IsLatch, IsGoodFf, IsGoodLatch, RefusesFf, RefusesLatch}

-- the k-th value of the state, after a change from old input pins to new ones in an old state
abbrev pub NextValue : Type 0
NextValue = List Tern → List Tern → List Tern → ℕ → Tern

-- the first and the second value are the pair's, any other stays
abbrev pub pair_value : Pair → ℕ → Tern → Tern
pair_value p k old = if k == 0 then p.first else if k == 1 then p.second else old

abbrev pub symbol_value : Option Symbol → Tern → Tern
symbol_value None old = tern.Unknown
symbol_value (Some s) old = next_value s old

-- a node's value after the row; unknown without one
abbrev pub row_value : Option Row → ℕ → Tern → Tern
row_value None k old = tern.Unknown
row_value (Some r) k old = symbol_value (slice_get r.next k) old

-- the values are those of a pair
abbrev pub ArePairValues : NextPair → NextValue → Type 0
ArePairValues next v = (old new state : List Tern) (k : ℕ) → v old new state k ≡ pair_value (next old new state) k (value_at state k)

-- the values are those of the first row that matches
abbrev pub AreTableValues : List Source → List Row → NextValue → Type 0
AreTableValues columns rows v = (old new state : List Tern) (k : ℕ) → v old new state k ≡ row_value (first_matching columns old new state rows) k (value_at state k)

-- The next values of a cell: without a state group they stay; a flip-flop and a latch have a pair; a table has rows.
abbrev pub IsNext : List Named → List LibertyPin → StateGroup → NextValue → Type 0
IsNext names pins Stateless v = (old new state : List Tern) (k : ℕ) → v old new state k ≡ value_at state k
IsNext names pins (Ff ff) v = (next : NextPair) × IsFf names ff next × ArePairValues next v
IsNext names pins (Latch latch) v = (next : NextPair) × IsLatch names latch next × ArePairValues next v
IsNext names pins (Rows r) v = (columns : List Source) × AreColumns pins r columns × ((rows : List Row) × AreRows r rows × AreTableValues columns rows v)

-- nothing in the state group is refused
abbrev pub IsGoodState : List Named → List LibertyPin → StateGroup → Type 0
IsGoodState names pins Stateless = Unit {0}
IsGoodState names pins (Ff ff) = IsGoodFf names ff
IsGoodState names pins (Latch latch) = IsGoodLatch names latch
IsGoodState names pins (Rows r) = ((columns : List Source) × AreColumns pins r columns) × ((rows : List Row) × AreRows r rows)

abbrev pub RefusesState : List Named → List LibertyPin → StateGroup → MeaningRefusal → Type 0
RefusesState names pins Stateless e = ⊥
RefusesState names pins (Ff ff) e = RefusesFf names ff e
RefusesState names pins (Latch latch) e = RefusesLatch names latch e
RefusesState names pins (Rows r) e = RefusesTable pins r e
