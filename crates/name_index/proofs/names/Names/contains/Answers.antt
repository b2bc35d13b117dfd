use Rattle.std.proofs.Common.{◌∙◌, ap}
use Rattle.std.specs.Prelude.{is_some}
use Rattle.name_index.proofs.Places.{known_by_place}
use Rattle.name_index.proofs.names.Names.contains.Goals as goal

pub returns : goal.returns
returns c = c.is_some.ensures ∙ ap is_some c.place_of.ensures ∙ known_by_place c.args.self.now c.args.name.now
