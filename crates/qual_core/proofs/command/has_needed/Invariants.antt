use Rattle.std.proofs.Common.{◌≡◌, drop}
use Rattle.std.specs.List.{list_all}
use Rattle.qual_core.specs.Names.{is_among}
use Rattle.qual_core.specs.Command.{texts, options, option_word, has_needed}
use Rattle.qual_core.proofs.command.has_needed.Given as goal

abbrev pub invariant-loop-option : goal.invariant-loop-option
invariant-loop-option l =
    has_needed l.fn.name (texts l.pairs)
    ≡ list_all (λ option. is_among (options (texts l.pairs)) (option_word option)) (drop l.option-index l.option-items)
