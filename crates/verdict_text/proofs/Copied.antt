-- A copy of what a reference shows.
use Rattle.std.proofs.Common.{◌≡◌, refl, Option, Some, None, Bor}
use Rattle.std.specs.Option.{option_map, option_copied}

pub copied_map : {T : Type 0} (o : Option (Bor T)) → option_copied o ≡ option_map (λ b. b.now) o
copied_map None = refl
copied_map (Some b) = refl
