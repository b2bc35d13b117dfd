use Rattle.std.proofs.Common.{sym}
use Rattle.liberty_meaning.proofs.outputs.node_program.Goals as goal

pub returns-in_ok-of_source-in-None : goal.returns-in_ok-of_source-in-None
returns-in_ok-of_source-in-None c = rw c.in-None.is c.in_ok-of_source-in-None.ensures

pub returns-in_ok-of_source-in-Some-place_of : goal.returns-in_ok-of_source-in-Some-place_of
returns-in_ok-of_source-in-Some-place_of c = rw c.in-Some.is (c.in-Some-place_of.k, rw c.as_bytes.ensures at (sym c.in-Some-place_of.ensures), c.in_ok-of_source-in-Some-place_of.ensures)
