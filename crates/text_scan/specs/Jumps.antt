-- Places after many bytes at once.
use Rattle.std.specs.Prelude.{ℕ, ◌+◌, min}
use Rattle.text_scan.specs.declared.token.Place.{Place}

-- so many bytes further on the same line
abbrev pub forward : ℕ → Place → Place
forward n p = record { at = p.at + n; line = p.line; column = min (p.column + n) 4294967295 }

-- so many bytes further, of which the last is an LF
abbrev pub line_after : ℕ → Place → Place
line_after n p = record { at = p.at + n; line = min (p.line + 1) 4294967295; column = 1 }
