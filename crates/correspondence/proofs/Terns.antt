-- Lists of values that are tested for equality.
use Rattle.std.proofs.Common.{◌≡◌, Bool, List, refl}
use Rattle.std.specs.Bool.{Decides}
use Rattle.std.specs.Cmp.Lexicographic.{pointwise}
use Rattle.std.proofs.lemmas.Slice.Eq.{slice_eq-Decides}
use Rattle.tern_core.specs.declared.tern.Tern.{Tern}
use Rattle.tern_core.specs.declared.tern.Tern.TheVariants.{Zero, One, Unknown}
use Rattle.tern_core.specs.contracts.tern.TernPartialEq.TheImpl.{eq-value}

same_value : (a b : Tern) → Decides (eq-value.it a b) (a ≡ b)
same_value Zero Zero = ((λ e. refl), (λ e. refl))
same_value Zero One = ((λ e. absurd (cc)), (λ e. absurd (cc)))
same_value Zero Unknown = ((λ e. absurd (cc)), (λ e. absurd (cc)))
same_value One Zero = ((λ e. absurd (cc)), (λ e. absurd (cc)))
same_value One One = ((λ e. refl), (λ e. refl))
same_value One Unknown = ((λ e. absurd (cc)), (λ e. absurd (cc)))
same_value Unknown Zero = ((λ e. absurd (cc)), (λ e. absurd (cc)))
same_value Unknown One = ((λ e. absurd (cc)), (λ e. absurd (cc)))
same_value Unknown Unknown = ((λ e. refl), (λ e. refl))

pub same_values : (xs ys : List Tern) (r : Bool) → r ≡ pointwise eq-value.it xs ys → Decides r (xs ≡ ys)
same_values = slice_eq-Decides same_value
