-- Choosing by one control and then by the other is the common value over all choices.
use Rattle.std.proofs.Common.{◌≡◌, refl}
use Rattle.tern_core.specs.declared.tern.Tern.{Tern}
use Rattle.tern_core.specs.declared.tern.Tern.TheVariants.{Zero, One, Unknown}
use Rattle.tern_core.specs.Values.{common_of}
use Rattle.liberty_meaning.specs.Pairs.{chosen, controlled}

common_unknown : (a : Tern) → common_of a Unknown ≡ Unknown
common_unknown Zero = refl
common_unknown One = refl
common_unknown Unknown = refl

common_assoc : (a b c : Tern) → common_of (common_of a b) c ≡ common_of a (common_of b c)
common_assoc Zero Zero Zero = refl
common_assoc Zero Zero One = refl
common_assoc Zero Zero Unknown = refl
common_assoc Zero One Zero = refl
common_assoc Zero One One = refl
common_assoc Zero One Unknown = refl
common_assoc Zero Unknown c = refl
common_assoc One Zero Zero = refl
common_assoc One Zero One = refl
common_assoc One Zero Unknown = refl
common_assoc One One Zero = refl
common_assoc One One One = refl
common_assoc One One Unknown = refl
common_assoc One Unknown c = refl
common_assoc Unknown b c = refl

pub chosen_twice : (clear preset a b c d : Tern) → chosen clear (chosen preset a b) (chosen preset c d) ≡ controlled clear preset (record { neither = a; cleared = c; preset = b; both = d })
chosen_twice Zero Zero a b c d = refl
chosen_twice Zero One a b c d = refl
chosen_twice Zero Unknown a b c d = refl
chosen_twice One Zero a b c d = refl
chosen_twice One One a b c d = refl
chosen_twice One Unknown a b c d = refl
chosen_twice Unknown Zero a b c d = refl
chosen_twice Unknown One a b c d = refl
chosen_twice Unknown Unknown a b c d = common_assoc a b (common_of c d)
