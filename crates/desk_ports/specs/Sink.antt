use Rattle.std.specs.Prelude.{◌≡◌, ◌≤◌, ◌++◌, ℕ, List, take, length}

-- new is old with a first part of the piece
abbrev pub AppendsPart : List ℕ → List ℕ → List ℕ → Type 0
AppendsPart old new piece = (count : ℕ) × (count ≤ length piece) × (new ≡ old ++ take count piece)
