use Rattle.std.specs.Prelude.{◌≡◌, ◌≢◌, ℕ, ◌<◌, List}
use Rattle.tern_core.specs.declared.tern.Tern.{Tern}
use Rattle.switch_response.specs.Walks.{value_at}

-- the first node at which two states differ
abbrev pub IsFirstDifference : List Tern → List Tern → ℕ → Type 0
IsFirstDifference a b node = (value_at a node ≢ value_at b node) × ((k : ℕ) → k < node → value_at a k ≡ value_at b k)
