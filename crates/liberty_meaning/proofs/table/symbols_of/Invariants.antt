use Rattle.std.proofs.Common.{◌≡◌, drop}
use Rattle.liberty_meaning.specs.Table.{symbols_of}
use Rattle.liberty_meaning.proofs.TableLemmas.{before_symbols}
use Rattle.liberty_meaning.proofs.table.symbols_of.Given as goal

abbrev pub invariant-loop-word : goal.invariant-loop-word
invariant-loop-word l = symbols_of l.role l.second l.words ≡ before_symbols l.symbols (symbols_of l.role l.second (drop l.word-index l.words))
