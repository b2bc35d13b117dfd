use Rattle.csv_records.proofs.Whole.{Stands}
use Rattle.csv_records.proofs.reading.read_records.Given as goal

abbrev pub invariant-loop-count : goal.invariant-loop-count
invariant-loop-count g l = Stands g.M.Entries.holds (g.M.Entries.refuses l.limits) l.text l.limits l.count l.reader l.made
