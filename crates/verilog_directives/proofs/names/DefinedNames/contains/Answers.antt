use Rattle.std.proofs.Common.{sym, ap, ◌∙◌}
use Rattle.std.specs.FinSet as set
use Rattle.verilog_directives.proofs.NameSets.{contains-names_of}
use Rattle.verilog_directives.proofs.names.DefinedNames.contains.Goals as goal

pub returns : goal.returns
returns c = c.contains.ensures ∙ sym (contains-names_of _ _) ∙ ap (λ z. set.contains z c.args.name.now) c.self.view_is
