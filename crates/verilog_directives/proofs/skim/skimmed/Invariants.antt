use Rattle.std.proofs.Common.{◌≤◌, ◌-◌, length}
use Rattle.text_scan.specs.declared.token.Style.TheVariants.{Verilog}
use Rattle.text_scan.specs.Jumps.{forward}
use Rattle.text_scan.specs.Left.{tokens_at}
use Rattle.verilog_directives.specs.Behind.{IsCounted}
use Rattle.verilog_directives.specs.Skims.{Skims}
use Rattle.verilog_directives.proofs.skim.skimmed.Given as goal

abbrev pub invariant-loop-at : goal.invariant-loop-at
invariant-loop-at l = record {
  skims : Skims l.source l.line (tokens_at Verilog l.source l.fn.from) (tokens_at Verilog l.source (forward (l.at - l.begun.at) l.begun));
  counted : IsCounted l.fn.from → IsCounted l.begun;
  begun : l.begun.at ≤ l.at;
  within : l.at ≤ length l.source;
}

abbrev pub decreases-loop-at : goal.decreases-loop-at
decreases-loop-at l = length l.source - l.at
