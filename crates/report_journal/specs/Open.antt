-- Why a journal isn't opened.
use Rattle.std.specs.Prelude.{◌<◌, ◌≡◌, ◌≢◌, ◌⊎◌, ℕ, ◌≤◌, List, [], ◌∷◌, ◌++◌, length, take, drop}
use Rattle.report_journal.specs.Image.{Head, Key, plain_head, magic, header, records, IsBlock, AreBlocks, NoJournalYet}
use Rattle.report_journal.specs.declared.opening.OpenError.{OpenError}
use Rattle.report_journal.specs.declared.opening.OpenError.TheVariants.{Failed, OtherInputs, NotJournal, TooLong, BrokenRecord}

-- what stands behind an open gate begins with a whole head and block
pub record IsWhole (head : Head) (behind : List ℕ) : Type 0 where
  pub block : List ℕ
  pub rest : List ℕ
  pub is_block : IsBlock block
  pub bytes : behind ≡ head (length block) ++ (block ++ rest)

abbrev pub IsOpenGate : List ℕ → List ℕ → Type 0
IsOpenGate rest behind = rest ≡ 1 ∷ behind

-- no gate, or an open one without a whole record
abbrev pub NoRecord : Head → List ℕ → Type 0
NoRecord head rest = (rest ≡ []) ⊎ ((behind : List ℕ) × IsOpenGate rest behind × (IsWhole head behind → ⊥))

-- behind this many records stands no record, or an open gate where there are as many as may be
pub record IsBroken (front : List ℕ) (head : Head) (image : List ℕ) (index : ℕ) : Type 0 where
  pub blocks : List (List ℕ)
  pub are_blocks : AreBlocks blocks
  pub index_is : index ≡ length blocks
  pub rest : List ℕ
  pub bytes : image ≡ front ++ (records head blocks ++ rest)
  pub broken : NoRecord head rest ⊎ ((length blocks ≡ 4096) × ((behind : List ℕ) × IsOpenGate rest behind))

-- not too long, and more than what is no journal yet
pub record IsSized (image : List ℕ) : Type 0 where
  pub within : length image ≤ 4294987818
  pub there : NoJournalYet image → ⊥

-- what a refusal says of the bytes, the first that applies
abbrev pub Refuses : Key → List ℕ → OpenError → Type 0
Refuses key image Failed = ⊥
Refuses key image (TooLong size) = (size ≡ length image) × (4294987818 < length image)
Refuses key image (NotJournal first) = IsSized image × (take 9 image ≢ 1 ∷ magic) × (first ≡ take 8 image)
Refuses key image (OtherInputs kept) = IsSized image × (take 9 image ≡ 1 ∷ magic) × (kept ≡ take 32 (drop 9 image)) × (kept ≢ key)
Refuses key image (BrokenRecord index) = IsSized image × (take 41 image ≡ header key) × IsBroken (header key) plain_head image index
