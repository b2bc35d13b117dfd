-- The two state variables of a flip-flop and of a latch (Liberty User Guide, "ff Group", "latch Group"), as cases on values.
use Rattle.std.specs.Prelude.{ℕ, Bool, true, false, List, [], ◌∷◌, ◌++◌, slice_index_or}
use Rattle.tern_core.specs.declared.tern.Tern.{Tern}
use Rattle.tern_core.specs.declared.tern.Tern.TheVariants.{Zero, One, Unknown}
use Rattle.tern_core.specs.Values.{not_of, common_of, common_of_all}
use Rattle.liberty_source.specs.declared.Both.{Both}
use Rattle.liberty_source.specs.declared.Both.TheVariants as says
use Rattle.liberty_meaning.specs.declared.pair.Pair.{Pair}

abbrev pub pair : Tern → Tern → Pair
pair a b = record { first = a; second = b }

-- the pair that an input value gives: it and its inverse
abbrev pub taken_in : Tern → Pair
taken_in n = pair n (not_of n)

-- the common values of two pairs
abbrev pub common_pair : Pair → Pair → Pair
common_pair p q = pair (common_of p.first q.first) (common_of p.second q.second)

-- The clock before and after the change, the next value, the old pair: the next value at a rising clock; the old pair
-- where the clock was 1, is 0 or didn't change; what both have in common where it may have risen.
abbrev pub clocked_pair : Tern → Tern → Tern → Pair → Pair
clocked_pair Zero One n old = taken_in n
clocked_pair Zero Zero n old = old
clocked_pair Zero Unknown n old = common_pair (taken_in n) old
clocked_pair One c n old = old
clocked_pair Unknown Zero n old = old
clocked_pair Unknown One n old = common_pair (taken_in n) old
clocked_pair Unknown Unknown n old = old

-- the data at enable 1, the old pair at 0, what both have in common where the enable is unknown
abbrev pub latched_pair : Tern → Tern → Pair → Pair
latched_pair One d old = taken_in d
latched_pair Zero d old = old
latched_pair Unknown d old = common_pair (taken_in d) old

-- the values that a control may have: whether it is active
abbrev pub choices : Tern → List Bool
choices Zero = false ∷ []
choices One = true ∷ []
choices Unknown = false ∷ true ∷ []

-- a variable's values without controls, cleared, preset, and with both
pub record Outcomes : Type 0 where
  pub neither : Tern
  pub cleared : Tern
  pub preset : Tern
  pub both : Tern

abbrev pub outcome : Outcomes → Bool → Bool → Tern
outcome o false false = o.neither
outcome o true false = o.cleared
outcome o false true = o.preset
outcome o true true = o.both

abbrev pub over_presets : Outcomes → Bool → List Bool → List Tern
over_presets o c [] = []
over_presets o c (p ∷ ps) = outcome o c p ∷ over_presets o c ps

abbrev pub over_both : Outcomes → List Bool → List Bool → List Tern
over_both o [] ps = []
over_both o (c ∷ cs) ps = over_presets o c ps ++ over_both o cs ps

-- the common value over all choices of clear and preset
abbrev pub controlled : Tern → Tern → Outcomes → Tern
controlled clear preset o = common_of_all (over_both o (choices clear) (choices preset))

-- what clear_preset_var1 or 2 gives a variable
abbrev pub both_value : Both → Tern → Tern
both_value says.Low old = Zero
both_value says.High old = One
both_value says.Keep old = old
both_value says.Unknown old = Unknown

-- the pair after clear, which gives 0 and 1, and preset, which gives 1 and 0
abbrev pub controlled_pair : Tern → Tern → Both → Both → Pair → Pair → Pair
controlled_pair clear preset both1 both2 old p = pair
    (controlled clear preset (record { neither = p.first; cleared = Zero; preset = One; both = both_value both1 old.first }))
    (controlled clear preset (record { neither = p.second; cleared = One; preset = Zero; both = both_value both2 old.second }))

-- what stands for the first or second variable
abbrev pub both_at : List Both → ℕ → Both
both_at both k = slice_index_or both k says.Low

-- a control that is inactive, active, or one of both
abbrev pub chosen : Tern → Tern → Tern → Tern
chosen Zero a b = a
chosen One a b = b
chosen Unknown a b = common_of a b
