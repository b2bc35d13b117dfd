use Rattle.std.specs.Prelude.{◌+◌, ℕ, List, [], ◌∷◌, take, drop}
use Rattle.desk_ports.specs.MemDisk.{Change, Wrote, Synced}
use Rattle.desk_ports.specs.declared.disk_entry.Entry.{Entry}
use Rattle.desk_ports.specs.declared.disk_entry.Entry.TheVariants.{Write, Sync}

-- What a log says, whose pieces stand one behind another: the changes, the latest first, before
-- those that are known.
abbrev pub past_from : List Change → List Entry → List ℕ → List Change
past_from past [] pieces = past
past_from past (Write place size ∷ log) pieces = past_from (Wrote place (take size pieces) ∷ past) log (drop size pieces)
past_from past (Sync ∷ log) pieces = past_from (Synced ∷ past) log pieces

-- how many bytes of pieces a log has
abbrev pub piece_bytes : List Entry → ℕ
piece_bytes [] = 0
piece_bytes (Write place size ∷ log) = size + piece_bytes log
piece_bytes (Sync ∷ log) = piece_bytes log
