use Rattle.text_scan.specs.Limits.{standard}
use Rattle.verilog_reader.proofs.Driving.{answers_drive}
use Rattle.qual_core.proofs.Driving.{modules_agree}
use Rattle.qual_core.proofs.laws.texts_drive_nets.Goals as goal

pub returns : goal.returns
returns c = λ bytes source read. modules_agree source.modules (answers_drive bytes standard source read.1)
