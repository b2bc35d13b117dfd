use Rattle.std.proofs.Common.{take}
use Rattle.std.specs.List.{AllZip}
use Rattle.udp_table.specs.Letters.{IsRow}
use Rattle.udp_table.proofs.read.rows.Given as goal

abbrev pub invariant-loop-place : goal.invariant-loop-place
invariant-loop-place l =
    AllZip (IsRow l.text.sequential l.text.inputs) (take l.place l.text.rows) l.rows
