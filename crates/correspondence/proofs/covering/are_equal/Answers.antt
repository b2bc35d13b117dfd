use Rattle.std.proofs.Common.{rules}
use Rattle.correspondence.proofs.Terns.{same_values}
use Rattle.correspondence.proofs.covering.are_equal.Goals as goal

pub returns : goal.returns
returns c = let d = same_values c.args.left.now c.args.right.now c.eq.result c.eq.ensures in search rules
