use Rattle.std.proofs.Common.{◌≡◌, to_z, of_z, w32, ap, subst, sym, ◌∙◌, rules}
use Rattle.waiver_source.specs.Index.{IsIndexOf}
use Rattle.waiver_source.specs.Places.{first_place}
use Rattle.waiver_source.proofs.waivers.Waivers.first_place.Goals as goal

pub returns : goal.returns
returns c =
    let rows = c.self.inside.rows in
    let day : to_z w32 (of_z w32 c.args.day) ≡ c.args.day = search rules in
    let ix = subst (IsIndexOf rows) (sym c.as_slice.ensures.value) c.self.invariant in
    let told = c.first_in.ensures rows ix ∙ ap (first_place rows c.args.cell.now c.args.code c.args.pin.now) day in
    subst (λ ws. c.first_in.result ≡ first_place ws c.args.cell.now c.args.code c.args.pin.now c.args.day) c.self.view_is told
