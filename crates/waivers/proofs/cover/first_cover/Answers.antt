use Rattle.std.proofs.Common.{◌≡◌, ◌∙◌, sym, rules, w32, to_z, of_z}
use Rattle.waivers.proofs.Covering.{first_cover}
use Rattle.waivers.proofs.cover.first_cover.Goals as goal

pub returns : goal.returns
returns c =
    let same : to_z w32 (of_z w32 c.args.day) ≡ c.args.day = search rules in
    c.earlier.ensures
    ∙ rw (c.first_with-own.ensures, c.first_with-all.ensures, c.pin_word-pin.ensures) (rw same (sym (first_cover c.args.waivers.now c.args.cell.now c.args.day c.args.finding.now)))
