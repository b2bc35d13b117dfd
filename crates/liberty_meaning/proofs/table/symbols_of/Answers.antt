use Rattle.std.proofs.Common.{◌≡◌, sym, Some, None}
use Rattle.liberty_meaning.specs.Symbols.{symbol_of}
use Rattle.liberty_meaning.proofs.TableLemmas.{symbol_here, no_symbol_here, symbols_end}
use Rattle.liberty_meaning.proofs.table.symbols_of.Goals as goal

pub returns-in-None : goal.returns-in-None
returns-in-None c =
    let e : symbol_of c.args.role c.args.second c.word-item.result ≡ None = rw c.as_bytes.ensures at (sym c.in-None.ensures) in
    no_symbol_here c.args.role c.args.second c.args.words.now c.loop-word.word-index c.word-item.result c.loop-word.symbols c.loop-word-test.true c.word-item.is e c.loop-word.invariant

pub loop-word-preserved : goal.loop-word-preserved
loop-word-preserved c =
    let e : symbol_of c.args.role c.args.second c.word-item.result ≡ Some c.in-Some.symbol = rw c.as_bytes.ensures at (sym c.in-Some.ensures) in
    symbol_here c.args.role c.args.second c.args.words.now c.loop-word.word-index c.word-item.result c.in-Some.symbol c.loop-word.symbols _ c.loop-word-test.true c.word-item.is e c.loop-word.invariant c.in_ok-push-in-Some.ensures.ok

pub returns : goal.returns
returns c = symbols_end c.args.role c.args.second c.args.words.now c.loop-word.word-index c.loop-word.symbols c.loop-word-test.false c.loop-word.invariant
