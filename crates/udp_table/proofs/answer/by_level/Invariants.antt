use Rattle.std.proofs.Common.{◌≡◌, drop}
use Rattle.udp_table.specs.Answers.{level_answer}
use Rattle.udp_table.proofs.answer.by_level.Given as goal

abbrev pub invariant-loop-row : goal.invariant-loop-row
invariant-loop-row l = level_answer (drop l.row-index l.rows) l.levels l.state ≡ level_answer l.rows l.levels l.state
