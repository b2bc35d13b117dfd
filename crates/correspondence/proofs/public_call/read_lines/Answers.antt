use Rattle.std.proofs.Common.{◌∙◌}
use Rattle.correspondence.specs.Left.{line_with, lines_left, placed}
use Rattle.correspondence.proofs.Follows.{ends_early, ends_well, goes_on, stops_so}
use Rattle.correspondence.proofs.public_call.read_lines.Goals as goal

pub returns-in-Err : goal.returns-in-Err
returns-in-Err c =
    stops_so c.args.limits.now c.args.text.now c.in-Err.refusal c.lines.reader c.take.new.self (line_with (placed c.in-Some.first) c.next_line.new.self) (lines_left c.lines.lines)
    (lines_left c.next_line.new.self) _ c.in-Some.ensures c.in-Err.ensures.taken c.lines.invariant

pub lines-preserved : goal.lines-preserved
lines-preserved c =
    goes_on c.args.limits.now c.args.text.now c.lines.reader c.take.new.self (line_with (placed c.in-Some.first) c.next_line.new.self) (lines_left c.lines.lines)
    (lines_left c.next_line.new.self) (lines_left c.take.new.lines) c.in-Some.ensures c.in_default-take.ensures.lines c.in_default-take.ensures.taken
    ∙ c.lines.invariant

pub returns-in-End : goal.returns-in-End
returns-in-End c = ends_well c.args.limits.now c.args.text.now c.lines.reader (lines_left c.lines.lines) _ c.in_default.ensures c.in-End.is c.lines.invariant

pub returns-in_default-last : goal.returns-in_default-last
returns-in_default-last c =
    ends_early c.args.limits.now c.args.text.now c.lines.reader (lines_left c.lines.lines) c.at_end.result _ c.in_default.ensures c.in_default-last.not-End c.at_end.ensures c.lines.invariant
