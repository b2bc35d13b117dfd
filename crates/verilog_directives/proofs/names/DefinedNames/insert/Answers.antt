use Rattle.std.proofs.Common.{ap, ◌∙◌}
use Rattle.std.specs.FinSet as set
use Rattle.verilog_directives.proofs.NameSets.{names_of-insert}
use Rattle.verilog_directives.proofs.names.DefinedNames.insert.Goals as goal

pub returns-clause-ok : goal.returns-clause-ok
returns-clause-ok c =
    names_of-insert c.in_ok-key.key.items c.self.inside.names c.insert.new.self c.in_ok-insert.ensures.updates
    ∙ ap (λ z. set.insert z c.in_ok-key.key.items) c.self.view_is
    ∙ ap (set.insert c.args.self.now) (c.in_ok-key.ensures.items_if_clones_equal (λ x y e. e))
