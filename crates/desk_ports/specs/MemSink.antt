use Rattle.std.specs.Prelude.{ℕ, List, []}

-- what contracts see of a memory sink
pub record SinkState : Type 0 where
  pub written : List ℕ
  -- how many more bytes there is room for
  pub room : ℕ
  -- the numbers of the calls that are told to fail
  pub fails : List ℕ
  pub calls : ℕ
  pub faults : ℕ

-- a new sink with so much room, whose calls with these numbers are told to fail
abbrev pub new_sink : ℕ → List ℕ → SinkState
new_sink room fails = record { written = []; room = room; fails = fails; calls = 0; faults = 0 }
