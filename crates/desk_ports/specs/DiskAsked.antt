use Rattle.std.specs.Prelude.{◌≡◌, ◌+◌, ◌-◌, ◌^◌, ◌&&◌, ℕ, Bool, not, max, nat_lt, nat_le, if◌then◌else◌}
use Rattle.desk_ports.specs.Faults.{one_more}
use Rattle.desk_ports.specs.declared.disk_asked.DiskAsked.{DiskAsked}

-- what was asked of a new disk
abbrev pub no_call : DiskAsked
no_call = record { calls = 0; written = 0; end = 0 }

-- a call that writes nothing
abbrev pub one_call_more : DiskAsked → DiskAsked
one_call_more asked = record { calls = one_more asked.calls; written = asked.written; end = asked.end }

-- a call that writes so many bytes at a place, or fails
abbrev pub one_write_more : ℕ → ℕ → Bool → DiskAsked → DiskAsked
one_write_more place size done asked = record {
  calls = one_more asked.calls;
  written = if done then asked.written + size else asked.written;
  end = max asked.end (place + size);
}

-- whether a call that writes nothing succeeds: it isn't told to fail, and the disk can record it
abbrev pub answers_call : (ℕ → Bool) → DiskAsked → DiskAsked → Bool
answers_call fails room asked = nat_lt asked.calls room.calls && not (fails asked.calls)

-- whether a write succeeds: there is room for its bytes too
abbrev pub answers_write : (ℕ → Bool) → DiskAsked → ℕ → ℕ → DiskAsked → Bool
answers_write fails room place size asked =
    answers_call fails room asked && (nat_le (asked.written + size) room.written && nat_le (place + size) room.end)
