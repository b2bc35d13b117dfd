-- Where a cell that knows more of its pins and its state keeps what was known.
use Rattle.std.specs.Prelude.{◌≡◌, ℕ, Bool, true, false, List, codes, Some, None, ◌⊎◌}
use Rattle.tern_core.specs.declared.tern.Tern.{Tern}
use Rattle.tern_core.specs.declared.tern.Tern.TheVariants.{Zero, One, Unknown}
use Rattle.tern_core.specs.Order.{IsAtMost, AreAtMost}
use Rattle.liberty_function.specs.declared.program.Source.{Source}
use Rattle.liberty_meaning.specs.declared.pair.Pair.{Pair}
use Rattle.liberty_meaning.specs.declared.table.Row.{Row}
use Rattle.liberty_meaning.specs.declared.behaviour.Behaviour.{Behaviour}
use Rattle.liberty_meaning.specs.Meaning.{Valuation}
use Rattle.liberty_meaning.specs.Pairs.{clocked_pair}
use Rattle.liberty_meaning.specs.Table.{first_matching}
use Rattle.liberty_meaning.specs.TableMeaning.{all_made}
use Rattle.liberty_meaning.specs.TableText.{rows_of}
use Rattle.liberty_meaning.specs.Next.{row_value}
use Rattle.liberty_meaning.specs.Behaviour.{output_value, next_state}

-- the first pair is at most as known as the second one
abbrev pub IsPairAtMost : Pair → Pair → Type 0
IsPairAtMost p q = IsAtMost p.first q.first × IsAtMost p.second q.second

-- an output keeps what was known of it
abbrev pub OutputKeeps : Behaviour → ℕ → Type 0
OutputKeeps b k = (p q s t : List Tern) → AreAtMost p q → AreAtMost s t → IsAtMost (output_value b k p s) (output_value b k q t)

-- the next state keeps what was known, whatever the old pins were
abbrev pub NextKeeps : Behaviour → Type 0
NextKeeps b = (before later p q s t : List Tern) → AreAtMost p q → AreAtMost s t → AreAtMost (next_state b before p s) (next_state b later q t)

-- a clock that rises, or may
abbrev pub may_rise : Tern → Tern → Bool
may_rise Zero Zero = false
may_rise Zero One = true
may_rise Zero Unknown = true
may_rise One after = false
may_rise Unknown Zero = false
may_rise Unknown One = true
may_rise Unknown Unknown = false

-- where an unknown clock has stayed, the clock of which more is known neither rises nor may
abbrev pub StaysFlat : Tern → Tern → Tern → Tern → Type 0
StaysFlat before after known_before known_after = before ≡ Unknown → after ≡ Unknown → may_rise known_before known_after ≡ false

-- the next state keeps what was known of pins old and new and of the state, where an unknown clock stays flat
abbrev pub ClockedKeeps : Valuation → Behaviour → Type 0
ClockedKeeps clock b = (p q old new s t : List Tern) → AreAtMost p old → AreAtMost q new → AreAtMost s t
    → StaysFlat (clock p s) (clock q s) (clock old t) (clock new t) → AreAtMost (next_state b p q s) (next_state b old new t)

-- a next value and an old pair that an unknown clock which has stayed keeps and this clock doesn't
pub record LosesAtRise (before after : Tern) : Type 0 where
  pub next : Tern
  pub old : Pair
  pub lost : IsPairAtMost (clocked_pair Unknown Unknown next old) (clocked_pair before after next old) → ⊥

-- no row matches what is known less, or one row decides both
abbrev pub IsDecidedOnce : List Source → List Row → List Tern → List Tern → List Tern → List Tern → List Tern → List Tern → Type 0
IsDecidedOnce columns rows p q s old new t = (first_matching columns p q s rows ≡ None) ⊎ (first_matching columns p q s rows ≡ first_matching columns old new t rows)

-- the next state of a table keeps what was known where it is decided once
abbrev pub TableKeeps : List Source → List Row → Behaviour → Type 0
TableKeeps columns rows b = (p q old new s t : List Tern) → AreAtMost s t → IsDecidedOnce columns rows p q s old new t → AreAtMost (next_state b p q s) (next_state b old new t)

-- a table whose node becomes 0 at an unknown column, and 1 where the column is known to be 1
pub record LosesAtKnown : Type 0 where
  pub columns : List Source
  pub rows : List Row
  pub text : all_made 1 1 (rows_of (codes "H : - : H, - : - : L")) ≡ Some rows
  pub less : List Tern
  pub more : List Tern
  pub at_most : AreAtMost less more
  pub state : List Tern
  pub lost : (a : Tern) → IsAtMost (row_value (first_matching columns less less state rows) 0 a) (row_value (first_matching columns more more state rows) 0 a) → ⊥
