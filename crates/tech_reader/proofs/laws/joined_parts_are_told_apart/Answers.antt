use Rattle.tech_reader.proofs.Joined.{apart}
use Rattle.tech_reader.proofs.laws.joined_parts_are_told_apart.Goals as goal

pub returns : goal.returns
returns c = λ same. apart c.args.first.now c.args.third.now c.args.second.now c.args.fourth.now c.requires.first c.requires.third same
