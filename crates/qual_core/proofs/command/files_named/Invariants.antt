use Rattle.std.proofs.Common.{◌≡◌, ◌++◌, drop}
use Rattle.qual_core.specs.Command.{texts, files_named, all_files}
use Rattle.qual_core.proofs.command.files_named.Given as goal

abbrev pub invariant-loop-file : goal.invariant-loop-file
invariant-loop-file l =
    files_named (texts l.words) all_files ≡ l.files ++ files_named (texts l.words) (drop l.file-index l.file-items)
