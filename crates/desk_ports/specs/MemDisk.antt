use Rattle.std.specs.Prelude.{◌≡◌, ◌≤◌, ◌⊎◌, ◌+◌, ℕ, List, [], ◌∷◌, length}
use Rattle.desk_ports.specs.Disk.{overwritten, Torn}
use Rattle.desk_ports.specs.DiskAsked.{no_call}
use Rattle.desk_ports.specs.declared.disk_asked.DiskAsked.{DiskAsked}

-- a call that changed the bytes or the images
pub data Change : Type 0 where
  Wrote : ℕ → List ℕ → Change
  Synced : Change

-- what contracts see of a memory disk
pub record DiskState : Type 0 where
  -- the bytes that it was made with
  pub first : List ℕ
  -- what happened since, the latest first
  pub past : List Change
  pub asked : DiskAsked
  -- the most that may be asked
  pub most : DiskAsked
  -- the numbers of the calls that are told to fail
  pub fails : List ℕ
  pub faults : ℕ

-- the bytes that a read gives
abbrev pub bytes_after : List Change → List ℕ → List ℕ
bytes_after [] first = first
bytes_after (Wrote place piece ∷ past) first = overwritten (bytes_after past first) place piece
bytes_after (Synced ∷ past) first = bytes_after past first

-- what a stop may leave: after a sync what a read gives, and after a write any image from before
-- it, torn
abbrev pub IsImage : List Change → List ℕ → List ℕ → Type 0
IsImage [] first image = image ≡ first
IsImage (Wrote place piece ∷ past) first image =
    (before : List ℕ) × IsImage past first before × Torn place (length piece) before image
IsImage (Synced ∷ past) first image = image ≡ bytes_after past first

-- what a stop might have left at some moment from this one on; each change ends a moment
abbrev pub IsImageSince : List Change → List ℕ → ℕ → List ℕ → Type 0
IsImageSince [] first moment image = image ≡ first
IsImageSince (change ∷ past) first moment image =
    IsImage (change ∷ past) first image ⊎ ((moment ≤ length past) × IsImageSince past first moment image)

-- a new disk of these bytes, with room for so many bytes and calls, whose calls with these numbers
-- are told to fail
abbrev pub new_disk : List ℕ → ℕ → ℕ → List ℕ → DiskState
new_disk bytes room calls fails = record {
  first = bytes;
  past = [];
  asked = no_call;
  most = record { calls = calls; written = room + calls; end = room };
  fails = fails;
  faults = 0;
}
