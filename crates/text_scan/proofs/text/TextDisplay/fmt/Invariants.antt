use Rattle.std.proofs.Common.{take}
use Rattle.std.specs.Fmt.{HasWritten, IsPlainFormatter}
use Rattle.text_scan.specs.Refusals.{printed}
use Rattle.text_scan.proofs.text.TextDisplay.fmt.Given as goal

-- What has been written is what the bytes so far print.
abbrev pub invariant-loop-byte : goal.invariant-loop-byte
invariant-loop-byte g l =
    IsPlainFormatter l.initial.f → HasWritten g.W.Write.write_str_gives l.initial.f (printed (take l.byte-index l.byte-items)) l.f
