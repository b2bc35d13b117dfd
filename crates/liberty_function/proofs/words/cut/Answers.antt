use Rattle.std.proofs.Common.{◌≡◌, ap, arith, length, false}
use Rattle.liberty_function.specs.Words.{goes_on}
use Rattle.liberty_function.proofs.Cutting.{one_apart, begun_short, joins_apart}
use Rattle.liberty_function.proofs.words.cut.Goals as goal

pub returns-in_ok-begin-clause-words : goal.returns-in_ok-begin-clause-words
returns-in_ok-begin-clause-words c bs =
    let h = c.in_ok-begin.ensures in
    let g = c.in_ok-close.ensures in
    let e : goes_on c.args.cutting.now.name.items c.args.byte ≡ false = cc (c.deref.ensures.value) in
    rw (one_apart c.args.place c.args.cutting.now.name.items c.args.byte bs e, h.1) (joins_apart _ _ _ _ _ _ g.0 h.0)

pub returns-in_ok-begin-clause-short : goal.returns-in_ok-begin-clause-short
returns-in_ok-begin-clause-short c = omega (arith, ap length c.in_ok-begin.ensures.1, begun_short c.args.byte)
