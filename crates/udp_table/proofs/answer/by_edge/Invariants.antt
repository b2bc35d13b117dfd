use Rattle.std.proofs.Common.{◌≡◌, drop}
use Rattle.udp_table.specs.Rows.{case_of}
use Rattle.udp_table.specs.Answers.{edge_answer}
use Rattle.udp_table.proofs.answer.by_edge.Given as goal

abbrev pub invariant-loop-row : goal.invariant-loop-row
invariant-loop-row l =
    edge_answer (drop l.row-index l.rows) (case_of l.input l.old l.levels l.state) ≡ edge_answer l.rows (case_of l.input l.old l.levels l.state)
