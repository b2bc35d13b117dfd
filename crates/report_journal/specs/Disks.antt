-- What a disk holds of a journal.
use Rattle.std.specs.Prelude.{◌≡◌, ◌⊎◌, ◌≤◌, ◌+◌, ℕ, List, [], ◌∷◌, ◌++◌, length, Option, Some, All, IsTrue, is_some}
use Rattle.desk_ports.specs.Disk.{Only}
use Rattle.report_journal.specs.Image.{Key, plain_head, records, IsBlock, StandsFor}
use Rattle.report_journal.specs.Journal.{JournalState}

-- the disk reads these bytes, and they are its only image
pub record Holds {D : Type 0} (reads : D → Option (List ℕ)) (image : D → List ℕ → Type 0) (disk : D) (bytes : List ℕ) : Type 0 where
  pub reads_them : reads disk ≡ Some bytes
  pub only : Only bytes (image disk)

-- the bytes stand for these blocks, and the journal is at the gate behind them
pub record IsAt (journal : JournalState) (blocks : List (List ℕ)) (bytes : List ℕ) : Type 0 where
  pub stands : StandsFor journal.key bytes blocks
  pub place_is : journal.place ≡ 41 + length (records plain_head blocks)
  pub count_is : journal.count ≡ length blocks

-- every image of the disk stands for these blocks of the journal
pub record Keeps {D : Type 0} (reads : D → Option (List ℕ)) (image : D → List ℕ → Type 0) (disk : D) (journal : JournalState) (blocks : List (List ℕ)) : Type 0 where
  pub bytes : List ℕ
  pub holds : Holds reads image disk bytes
  pub at : IsAt journal blocks bytes

-- where the disk tells what it reads, it is as `open`, `kept` or the last `append` left it
pub record IsLeft {D : Type 0} (reads : D → Option (List ℕ)) (image : D → List ℕ → Type 0) (disk : D) (journal : JournalState) : Type 0 where
  pub keeps : IsTrue (is_some (reads disk)) → (blocks : List (List ℕ)) × Keeps reads image disk journal blocks

-- an image stands for the blocks, or for these and one more
abbrev pub IsBeforeOrAfter : Key → List (List ℕ) → List ℕ → List ℕ → Type 0
IsBeforeOrAfter key blocks block image = StandsFor key image blocks ⊎ StandsFor key image (blocks ++ block ∷ [])

-- at most so many records stand whole behind the first 41 bytes
abbrev pub AtMostRecords : ℕ → List ℕ → Type 0
AtMostRecords count bytes = (front : List ℕ) (blocks : List (List ℕ)) (rest : List ℕ) → length front ≡ 41 → All IsBlock blocks
    → bytes ≡ front ++ (records plain_head blocks ++ rest) → length blocks ≤ count
