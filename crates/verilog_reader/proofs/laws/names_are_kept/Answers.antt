use Rattle.verilog_reader.proofs.Lawful.{source_kept}
use Rattle.verilog_reader.proofs.laws.names_are_kept.Goals as goal

pub returns : goal.returns
returns c = λ text limits source low high a. source_kept text limits source low high a
