use Rattle.std.specs.Prelude.{◌≡◌, ◌≤◌, ℕ, List, [], take, drop, length, Result, MatchResult}

-- the first bytes left move to the front of the room; none does only where none is left
pub record Takes (old new room : List ℕ) (count : ℕ) : Type 0 where
  pub within : count ≤ length old
  pub moved : take count room ≡ take count old
  pub rest : new ≡ drop count old
  pub ends : count ≡ 0 → old ≡ []

-- what a call of take does to the bytes left, by its answer: a failing call takes none
abbrev pub TakesFrom : {E : Type 0} → List ℕ → List ℕ → List ℕ → Result ℕ E → Type 0
TakesFrom old new room result =
    MatchResult result (λ count. Takes old new room count) (λ _. new ≡ old)
