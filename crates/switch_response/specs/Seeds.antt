-- Where unblocked walks may start whose root isn't at a value.
use Rattle.std.specs.Prelude.{◌≡◌, ◌≢◌, ℕ, ◌<◌, ◌≤◌, List, length, slice_index}
use Rattle.tern_core.specs.declared.tern.Tern.{Tern}
use Rattle.tern_core.specs.declared.tern.Tern.TheVariants.{Zero, One, Unknown}
use Rattle.switch_response.specs.Walks.{value_at}

pub record IsSeed (value avoid : Tern) (strength definite seed : ℕ) : Type 0 where
  pub avoided : value ≡ avoid → seed ≡ 0
  pub blocked : strength < definite → seed ≡ 0
  pub kept : value ≢ avoid → definite ≤ strength → seed ≡ strength

abbrev pub AreSeeds : List Tern → Tern → List ℕ → List ℕ → List ℕ → Type 0
AreSeeds values avoid strengths definite seeds =
    (node : ℕ) → node < length seeds → IsSeed (value_at values node) avoid (slice_index strengths node) (slice_index definite node) (slice_index seeds node)

-- what a node becomes, by the strengths of the strongest walks to it whose roots aren't at 1, and aren't at 0
pub record IsLeft (ones zeros : ℕ) (value : Tern) : Type 0 where
  pub one : value ≡ One → ones ≡ 0
  pub zero : value ≡ Zero → zeros ≡ 0
  pub unknown : value ≡ Unknown → (0 < ones) × (0 < zeros)
