use Rattle.std.proofs.Common.{◌≡◌, drop}
use Rattle.desk_ports.specs.Files.{file_in, files_of}
use Rattle.desk_ports.proofs.memory_shelf.place_of.Given as goal

abbrev pub invariant-loop-index : goal.invariant-loop-index
invariant-loop-index l = file_in (files_of l.files) l.name ≡ file_in (files_of (drop l.index l.files)) l.name
