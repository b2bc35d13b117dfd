use Rattle.std.proofs.Common.{refl, ap, ◌∙◌, arith}
use Rattle.text_scan.specs.Jumps.{forward}
use Rattle.text_scan.proofs.Scan.{blanks, left_blanks}
use Rattle.text_scan.proofs.cursor.Cursor.skip_blanks.Goals as goal

pub returns-clause-further : goal.returns-clause-further
returns-clause-further c =
    let run = blanks c.args.self.now c.requires.within c.requires.blank in
    let some = run.some in
    let n = c.until_blanks_end-n.ensures.value in
    let at = ap (λ z. z.at) c.forward-self.ensures in
    omega (arith, some, n, at)

pub returns-clause-next : goal.returns-clause-next
returns-clause-next c =
    left_blanks c.args.self.now _ c.requires.within c.requires.blank refl refl (c.forward-self.ensures ∙ ap (λ z. forward z c.args.self.now.place) c.until_blanks_end-n.ensures.value)
