use Rattle.std.proofs.Common.{◌≡◌, ◌+◌, take}
use Rattle.compare_text.proofs.Growing.{IsBegun}
use Rattle.compare_text.proofs.report.compare_library.Given as goal

abbrev pub invariant-loop-part : goal.invariant-loop-part
invariant-loop-part l = record {
  begun : IsBegun (take l.part-index l.library.cells) l.models l.text.items l.totals;
  count : l.totals.equal + l.totals.differs + l.totals.refused ≡ l.part-index;
}
