-- What the steps of opening a journal say.
use Rattle.std.specs.Prelude.{◌<◌, ◌≡◌, ◌≢◌, ◌⊎◌, ℕ, ◌+◌, ◌*◌, ◌≤◌, List, ◌∷◌, ◌++◌, length, take, drop, slice_index}
use Rattle.report_journal.specs.Image.{Key, plain_head, magic, records, IsBlock, IsShut, IsLaidOut}
use Rattle.report_journal.specs.Open.{NoRecord, IsBroken}
use Rattle.report_journal.specs.declared.opening.OpenError.{OpenError}
use Rattle.report_journal.specs.declared.opening.OpenError.TheVariants.{Failed, OtherInputs, NotJournal, TooLong, BrokenRecord}
use Rattle.report_journal.specs.declared.gate.AtGate.{AtGate}
use Rattle.report_journal.specs.declared.gate.AtGate.TheVariants.{Shut, Broken, Record}
use Rattle.report_journal.specs.declared.walk.End.{End}

-- a size and a first byte with which a header has to be made
abbrev pub IsNew : ℕ → ℕ → Type 0
IsNew size first = (size < 42) ⊎ ((size ≡ 42) × (first ≢ 1))

-- where there is a first byte, it is this
abbrev pub BeginsWith : List ℕ → ℕ → Type 0
BeginsWith bytes first = 0 < length bytes → slice_index bytes 0 ≡ first

-- a gate that isn't open, and at most 41 bytes behind it
pub record IsShutHeader (bytes : List ℕ) : Type 0 where
  pub is_shut : IsShut bytes
  pub most : length bytes ≤ 42

-- what the first 42 bytes say
abbrev pub IsJudged : Key → List ℕ → OpenError → Type 0
IsJudged key front Failed = ⊥
IsJudged key front (TooLong size) = ⊥
IsJudged key front (NotJournal first) = (take 9 front ≢ 1 ∷ magic) × (first ≡ take 8 front)
IsJudged key front (OtherInputs kept) = (take 9 front ≡ 1 ∷ magic) × (kept ≡ take 32 (drop 9 front)) × (kept ≢ key)
IsJudged key front (BrokenRecord index) = ⊥

-- a whole record of so many bytes
pub record IsRecord (rest : List ℕ) (size : ℕ) : Type 0 where
  pub block : List ℕ
  pub left : List ℕ
  pub bytes : rest ≡ 1 ∷ (plain_head (length block) ++ (block ++ left))
  pub is_block : IsBlock block
  pub size_is : size ≡ length block

-- what stands at a gate's place
abbrev pub IsAtGate : List ℕ → AtGate → Type 0
IsAtGate rest Shut = IsShut rest
IsAtGate rest Broken = NoRecord plain_head rest
IsAtGate rest (Record size) = IsRecord rest size

-- known also where the disk tells nothing
abbrev pub IsSmall : AtGate → Type 0
IsSmall Shut = Unit {0}
IsSmall Broken = Unit {0}
IsSmall (Record size) = size ≤ 1048576

-- the records end here
pub record EndsAt (bytes : List ℕ) (end : End) : Type 0 where
  pub blocks : List (List ℕ)
  pub laid_out : IsLaidOut (take 41 bytes) plain_head IsShut bytes blocks
  pub place_is : end.place ≡ 41 + length (records plain_head blocks)
  pub count_is : end.count ≡ length blocks

-- known also where the disk tells nothing
pub record IsWithin (end : End) : Type 0 where
  pub few : end.count ≤ 4096
  pub near : end.place ≤ 41 + 1048581 * end.count

-- why a walk over the records didn't end
abbrev pub IsStuck : List ℕ → OpenError → Type 0
IsStuck bytes Failed = Unit {0}
IsStuck bytes (TooLong size) = ⊥
IsStuck bytes (NotJournal first) = ⊥
IsStuck bytes (OtherInputs kept) = ⊥
IsStuck bytes (BrokenRecord index) = IsBroken (take 41 bytes) plain_head bytes index
