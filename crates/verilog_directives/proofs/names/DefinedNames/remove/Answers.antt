use Rattle.std.proofs.Common.{ap, ◌∙◌}
use Rattle.std.specs.FinSet as set
use Rattle.verilog_directives.proofs.NameSets.{names_of-remove}
use Rattle.verilog_directives.proofs.names.DefinedNames.remove.Goals as goal

pub returns : goal.returns
returns c =
    names_of-remove c.args.name.now c.self.inside.names c.remove.new.self c.remove.ensures.updates
    ∙ ap (λ z. set.remove z c.args.name.now) c.self.view_is
