use Rattle.std.proofs.Common.{◌≤◌, length}
use Rattle.desk_ports.proofs.file_disk.read_up_to.Given as goal

abbrev pub invariant-loop : goal.invariant-loop
invariant-loop l = l.count ≤ length l.room
