use Rattle.cdl_reader.specs.Actions.{enter}
use Rattle.cdl_reader.proofs.Begins.{with_steps}
use Rattle.cdl_reader.proofs.parts.Parts.enter.Goals as goal

pub returns-clause-entered : goal.returns-clause-entered
unfolding enter
returns-clause-entered c = with_steps c.enter.result c.args.self.now c.enter.new.self _ c.enter.ensures.entered
