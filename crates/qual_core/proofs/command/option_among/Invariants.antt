use Rattle.std.proofs.Common.{◌≡◌, drop}
use Rattle.qual_core.specs.Command.{option_among}
use Rattle.qual_core.proofs.command.option_among.Given as goal

abbrev pub invariant-loop-option : goal.invariant-loop-option
invariant-loop-option l = option_among l.options l.word ≡ option_among (drop l.option-index l.options) l.word
