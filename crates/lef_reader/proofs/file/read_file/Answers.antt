use Rattle.lef_reader.specs.Steps.{rest}
use Rattle.lef_reader.proofs.TurnsLead.{refused_file}
use Rattle.lef_reader.proofs.file.read_file.Goals as goal

pub returns-in-Err : goal.returns-in-Err
returns-in-Err c = refused_file c.args.source.now c.args.limits.now c.in-Err.refusal c.turns.lef (rest c.turns.tokens) c.turns.invariant c.in-Err.ensures
