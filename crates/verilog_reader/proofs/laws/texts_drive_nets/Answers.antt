use Rattle.verilog_reader.proofs.Driving.{answers_drive}
use Rattle.verilog_reader.proofs.laws.texts_drive_nets.Goals as goal

pub returns : goal.returns
returns c = λ text limits source a. answers_drive text limits source a
