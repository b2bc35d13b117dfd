use Rattle.std.specs.Prelude.{◌≡◌, ◌≤◌, ◌+◌, ◌-◌, ◌^◌, ℕ, Bool, min, max, if◌then◌else◌, Result, Ok, Err}
use Rattle.desk_ports.specs.Faults.{one_more}
use Rattle.desk_ports.specs.declared.asked.Asked.{Asked}

-- what was asked of a new shelf
abbrev pub nothing_asked : Asked
nothing_asked = record { calls = 0; starts = 0; missing = 0; unexpected = 0; since = 0; most = 0 }

-- a call of start, whose name may be there and may be expected
abbrev pub after_start : Bool → Bool → Asked → Asked
after_start there expected a = record {
  calls = one_more a.calls;
  starts = one_more a.starts;
  missing = if there then a.missing else one_more a.missing;
  unexpected = if expected then a.unexpected else one_more a.unexpected;
  since = 0;
  most = a.most;
}

-- a call of take that gave so many bytes
abbrev pub after_bytes : ℕ → Asked → Asked
after_bytes count a = record {
  calls = one_more a.calls;
  starts = a.starts;
  missing = a.missing;
  unexpected = a.unexpected;
  since = min (a.since + count) (2 ^ 64 - 1);
  most = max a.most (min (a.since + count) (2 ^ 64 - 1));
}

-- a call that took nothing
abbrev pub after_call : Asked → Asked
after_call a = record {
  calls = one_more a.calls;
  starts = a.starts;
  missing = a.missing;
  unexpected = a.unexpected;
  since = a.since;
  most = a.most;
}

-- a call of take, by its answer
abbrev pub after_take : {E : Type 0} → Result ℕ E → Asked → Asked
after_take (Ok count) a = after_bytes count a
after_take (Err _) a = after_call a

-- one file was started, and at most one byte more than the limit was taken of it. Whether its name
-- is there and is expected is known, so where this holds whatever names are expected no other name
-- was started.
pub record AsksOnce (there expected : Bool) (limit : ℕ) (old new : Asked) : Type 0 where
  pub starts : new.starts ≡ one_more old.starts
  pub missing : new.missing ≡ (if there then old.missing else one_more old.missing)
  pub unexpected : new.unexpected ≡ (if expected then old.unexpected else one_more old.unexpected)
  pub most : new.most ≤ max old.most (limit + 1)
