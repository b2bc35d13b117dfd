use Rattle.std.proofs.Common.{◌≡◌, drop}
use Rattle.udp_table.specs.Symbols.{covers_all}
use Rattle.udp_table.proofs.symbol.cover.Given as goal

abbrev pub invariant-loop-place : goal.invariant-loop-place
invariant-loop-place l = covers_all (drop l.place l.symbols) (drop l.place l.values) ≡ covers_all l.symbols l.values
