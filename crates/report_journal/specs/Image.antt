-- What an image of a disk stands for: a list of blocks under a key.
use Rattle.std.specs.Prelude.{◌<◌, ◌≡◌, ◌≢◌, ◌⊎◌, ℕ, ◌≤◌, List, [], ◌∷◌, ◌++◌, length, slice_index, All}
use Rattle.std.specs.Int.{w32, to_be_bytes}

-- what stands between a record's gate and its block, by the size of the block
abbrev pub Head : Type 0
Head = ℕ → List ℕ

-- the size, in four bytes, the most significant first
abbrev pub plain_head : Head
plain_head size = to_be_bytes w32 size

-- for each block an open gate, the head and the block
abbrev pub records : Head → List (List ℕ) → List ℕ
records head [] = []
records head (block ∷ blocks) = 1 ∷ (head (length block) ++ (block ++ records head blocks))

abbrev pub IsBlock : List ℕ → Type 0
IsBlock block = (0 < length block) × (length block ≤ 1048576)

-- the blocks that a journal may have
pub record AreBlocks (blocks : List (List ℕ)) : Type 0 where
  pub each : All IsBlock blocks
  pub few : length blocks ≤ 4096

-- a gate that isn't open, and whatever stands behind it
pub record IsShut (rest : List ℕ) : Type 0 where
  pub gate : ℕ
  pub behind : List ℕ
  pub bytes : rest ≡ gate ∷ behind
  pub shut : gate ≢ 1

-- a front, a record for each block, and an end
pub record IsLaidOut (front : List ℕ) (head : Head) (Ends : List ℕ → Type 0) (image : List ℕ) (blocks : List (List ℕ)) : Type 0 where
  pub rest : List ℕ
  pub bytes : image ≡ front ++ (records head blocks ++ rest)
  pub ends : Ends rest
  pub are_blocks : AreBlocks blocks

-- what a journal is kept under: the digest of a report's header
abbrev pub Key : Type 0
Key = List ℕ

-- QUALJRN1
abbrev pub magic : List ℕ
magic = 81 ∷ 85 ∷ 65 ∷ 76 ∷ 74 ∷ 82 ∷ 78 ∷ 49 ∷ []

-- an open gate, the magic and the digest
abbrev pub header : Key → List ℕ
header digest = 1 ∷ (magic ++ digest)

-- an image of fewer than 42 bytes, or of 42 of which the first isn't 1
abbrev pub NoJournalYet : List ℕ → Type 0
NoJournalYet image = (length image < 42) ⊎ ((length image ≡ 42) × (slice_index image 0 ≢ 1))

-- an image stands under a key for a list of blocks
pub record StandsFor (key : Key) (image : List ℕ) (blocks : List (List ℕ)) : Type 0 where
  pub key_size : length key ≡ 32
  pub laid_out : IsLaidOut (header key) plain_head IsShut image blocks
  pub size : length image ≤ 4294987818

-- it stands for these blocks, or for no journal yet where there are none
abbrev pub StandsForAny : Key → List ℕ → List (List ℕ) → Type 0
StandsForAny key image blocks = StandsFor key image blocks ⊎ (NoJournalYet image × (blocks ≡ []))
