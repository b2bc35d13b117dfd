use Rattle.std.proofs.Common.{◌≡◌}
use Rattle.verilog_directives.specs.Directives.{source, left}
use Rattle.verilog_reader.proofs.Whole.{Holds, measure}
use Rattle.verilog_reader.proofs.reading.read_file.Given as goal

abbrev pub invariant-items : goal.invariant-items
invariant-items l = record {
  text : source l.directives ≡ l.source;
  holds : Holds l.source l.limits l.reader (left l.directives);
}

abbrev pub decreases-items : goal.decreases-items
decreases-items l = measure l.source l.limits l.reader.phase (left l.directives)
