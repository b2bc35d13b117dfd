use Rattle.std.proofs.Common.{◌∙◌, ap}
use Rattle.cdl_reader.specs.Pins.{direction_at}
use Rattle.cdl_reader.proofs.LastTold.{told_last}
use Rattle.cdl_reader.proofs.pins.LastFirst.direction_of.Goals as goal

pub returns : goal.returns
returns c = λ told h.
    c.direction_at.ensures ∙ ap (λ ds. direction_at ds c.place_of.result) c.as_slice.ensures ∙ ap (direction_at c.args.self.now.directions) c.place_of.ensures
    ∙ told_last told c.args.self.now.names c.args.self.now.directions c.args.pin.now h
