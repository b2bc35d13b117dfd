use Rattle.std.proofs.Common.{◌≡◌, length, true, false, Some, None, to_z, of_z, w32, refl, subst, rules}
use Rattle.std.specs.Prelude.{slice_get}
use Rattle.std.proofs.lemmas.Option.{slice_get_past, slice_get_read}
use Rattle.waiver_source.specs.Index.{IsFirstAt, words_for}
use Rattle.waiver_source.proofs.Found.{told_at, told_end}
use Rattle.waiver_source.proofs.finding.first_in.Goals as goal

pub returns-then-is_eq : goal.returns-then-is_eq
returns-then-is_eq c = λ waivers ix.
    let es = c.args.index.now in
    let place = c.first_at.result in
    let e = c.in-Some.entry.now in
    let day : to_z w32 (of_z w32 c.args.day) ≡ c.args.day = search rules in
    let cut = subst (λ d. IsFirstAt es (words_for c.args.cell.now c.args.code c.args.pin.now) d place) day (c.first_at.ensures waivers ix) in
    let there = c.in-Some.ensures.lookup in
    let et : slice_get es place ≡ Some e = slice_get_read es (length es) place e refl there.3.0 there.1 in
    told_at c.args.cell.now c.args.code c.args.pin.now c.args.day waivers es ix place cut e et true c.word.result.now c.compare-order.result c.word.ensures c.compare-order.ensures c.if-is_eq.ensures

pub returns-else-is_eq : goal.returns-else-is_eq
returns-else-is_eq c = λ waivers ix.
    let es = c.args.index.now in
    let place = c.first_at.result in
    let e = c.in-Some.entry.now in
    let day : to_z w32 (of_z w32 c.args.day) ≡ c.args.day = search rules in
    let cut = subst (λ d. IsFirstAt es (words_for c.args.cell.now c.args.code c.args.pin.now) d place) day (c.first_at.ensures waivers ix) in
    let there = c.in-Some.ensures.lookup in
    let et : slice_get es place ≡ Some e = slice_get_read es (length es) place e refl there.3.0 there.1 in
    told_at c.args.cell.now c.args.code c.args.pin.now c.args.day waivers es ix place cut e et false c.word.result.now c.compare-order.result c.word.ensures c.compare-order.ensures c.if-is_eq.ensures

pub returns-in-None : goal.returns-in-None
returns-in-None c = λ waivers ix.
    let es = c.args.index.now in
    let place = c.first_at.result in
    let day : to_z w32 (of_z w32 c.args.day) ≡ c.args.day = search rules in
    let cut = subst (λ d. IsFirstAt es (words_for c.args.cell.now c.args.code c.args.pin.now) d place) day (c.first_at.ensures waivers ix) in
    told_end c.args.cell.now c.args.code c.args.pin.now c.args.day waivers es ix place cut (slice_get_past es place c.in-None.ensures.lookup.3)
