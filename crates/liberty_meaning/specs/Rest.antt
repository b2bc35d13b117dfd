-- When a cell's state is at rest.
use Rattle.std.specs.Prelude.{◌≡◌, ℕ, ◌<◌, ◌↔◌, List, length}
use Rattle.tern_core.specs.declared.tern.Tern.{Tern}
use Rattle.tern_core.specs.declared.tern.Tern.TheVariants.{Zero, One, Unknown}
use Rattle.liberty_source.specs.declared.Both.{Both}
use Rattle.liberty_function.specs.declared.program.Source.{Source}
use Rattle.liberty_function.specs.Sources.{Named, value_at}
use Rattle.liberty_meaning.specs.declared.pair.Pair.{Pair}
use Rattle.liberty_meaning.specs.declared.table.Row.{Row}
use Rattle.liberty_meaning.specs.declared.behaviour.Behaviour.{Behaviour}
use Rattle.liberty_meaning.specs.Meaning.{values_of}
use Rattle.liberty_meaning.specs.Pairs.{pair, taken_in, latched_pair, controlled_pair, both_at}
use Rattle.liberty_meaning.specs.PairMeaning.{Functions, pair_of}
use Rattle.liberty_meaning.specs.Table.{first_matching}
use Rattle.liberty_meaning.specs.Next.{row_value}
use Rattle.liberty_meaning.specs.Behaviour.{IsAtRest}
use Rattle.liberty_meaning.specs.Known.{IsPairAtMost}

-- a pair that clear and preset keep, where without them it would become another one
abbrev pub IsKept : Tern → Tern → List Both → Pair → Pair → Type 0
IsKept clear preset both p next = controlled_pair clear preset (both_at both 0) (both_at both 1) p next ≡ p

-- A flip-flop whose pins stay has no edge: its pair is at rest exactly where clear and preset keep it.
pub record FlipFlopRests (names : List Named) (fs : Functions) (both : List Both) (b : Behaviour) (pins state : List Tern) : Type 0 where
  pub exactly : IsAtRest b pins state ↔ IsKept (values_of names fs.clear pins state) (values_of names fs.preset pins state) both (pair_of state) (pair_of state)
  pub uncontrolled : values_of names fs.clear pins state ≡ Zero → values_of names fs.preset pins state ≡ Zero → IsAtRest b pins state
  pub cleared : values_of names fs.clear pins state ≡ One → values_of names fs.preset pins state ≡ Zero → IsAtRest b pins state ↔ (pair_of state ≡ pair Zero One)
  pub preset : values_of names fs.clear pins state ≡ Zero → values_of names fs.preset pins state ≡ One → IsAtRest b pins state ↔ (pair_of state ≡ pair One Zero)

-- A latch takes in its data, or not, and then come clear and preset. Without them: where the enable is 0 each pair is at
-- rest, where it is 1 the data's, where it is X each that is at most as known as the data's.
pub record LatchRests (names : List Named) (fs : Functions) (both : List Both) (b : Behaviour) (pins state : List Tern) : Type 0 where
  pub exactly : IsAtRest b pins state ↔ IsKept (values_of names fs.clear pins state) (values_of names fs.preset pins state) both (pair_of state) (latched_pair (values_of names fs.control pins state) (values_of names fs.value pins state) (pair_of state))
  pub closed : values_of names fs.clear pins state ≡ Zero → values_of names fs.preset pins state ≡ Zero → values_of names fs.control pins state ≡ Zero → IsAtRest b pins state
  pub opened : values_of names fs.clear pins state ≡ Zero → values_of names fs.preset pins state ≡ Zero → values_of names fs.control pins state ≡ One
      → IsAtRest b pins state ↔ (pair_of state ≡ taken_in (values_of names fs.value pins state))
  pub unknown : values_of names fs.clear pins state ≡ Zero → values_of names fs.preset pins state ≡ Zero → values_of names fs.control pins state ≡ Unknown
      → IsAtRest b pins state ↔ IsPairAtMost (pair_of state) (taken_in (values_of names fs.value pins state))

-- a table's state is at rest exactly where the row that decides under pins that stay keeps each node
abbrev pub TableRests : List Source → List Row → Behaviour → List Tern → List Tern → Type 0
TableRests columns rows b pins state =
    IsAtRest b pins state ↔ ((k : ℕ) → k < length state → row_value (first_matching columns pins pins state rows) k (value_at state k) ≡ value_at state k)
