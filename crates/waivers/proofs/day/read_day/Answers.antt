use Rattle.std.proofs.Common.{rules, ◌≡◌, ◌∙◌, sym, Some, true, false, refl, arith, pos, ap, to_z, of_z, w8, w32}
use mir.Syntax.{w16}
use Rattle.std.proofs.lemmas.Int.{ints}
use Rattle.jiff_core.specs.Calendar.{IsDate}
use Rattle.jiff_core.specs.Date.{IsYmd, epoch_day}
use Rattle.waivers.proofs.Dates.{day_is, day_only, made, no_parts, unmade}
use Rattle.waivers.proofs.day.read_day.Goals as goal

pub returns-in_err-parts-clause-told : goal.returns-in_err-parts-clause-told
returns-in_err-parts-clause-told c = c.from_residual.ensures ∙ sym (no_parts c.args.text.now (sym c.in_err-parts.ensures.told))

pub returns-in_err-parts-clause-only : goal.returns-in_err-parts-clause-only
returns-in_err-parts-clause-only c = λ day d. returns-in_err-parts-clause-told c ∙ day_only c.args.text.now day d

pub returns-in-Ok-clause-told : goal.returns-in-Ok-clause-told
returns-in-Ok-clause-told c =
    let p = c.in_ok-parts.parts in
    let small = c.in_ok-parts.ensures.small in
    let y : to_z w16 p.year ≡ pos p.year = omega (arith, ints, small.0) in
    let m : to_z w8 p.month ≡ pos p.month = omega (arith, ints, small.1) in
    let d : to_z w8 p.day ≡ pos p.day = omega (arith, ints, small.2) in
    let date : IsDate (pos p.year) (pos p.month) (pos p.day) = rw (y, m, d) at (c.in-Ok.ensures.succeeds.0 refl) in
    let ymd : IsYmd (pos p.year) (pos p.month) (pos p.day) c.in-Ok.date = rw (y, m, d) at c.in-Ok.ensures.value in
    let n : to_z w32 (of_z w32 c.to_unix_epoch_day.result) ≡ c.to_unix_epoch_day.result = search rules in
    ap Some n ∙ sym (made c.args.text.now p c.in-Ok.date c.to_unix_epoch_day.result (sym c.in_ok-parts.ensures.told) date ymd
    (c.to_unix_epoch_day.ensures.value ∙ ap epoch_day c.to_plain.ensures))

pub returns-in-Ok-clause-found : goal.returns-in-Ok-clause-found
returns-in-Ok-clause-found c = day_is c.args.text.now _ (sym (returns-in-Ok-clause-told c))

pub returns-in-Ok-clause-only : goal.returns-in-Ok-clause-only
returns-in-Ok-clause-only c = λ day d. returns-in-Ok-clause-told c ∙ day_only c.args.text.now day d

pub returns-in-Err-clause-told : goal.returns-in-Err-clause-told
returns-in-Err-clause-told c =
    let p = c.in_ok-parts.parts in
    let small = c.in_ok-parts.ensures.small in
    let y : to_z w16 p.year ≡ pos p.year = omega (arith, ints, small.0) in
    let m : to_z w8 p.month ≡ pos p.month = omega (arith, ints, small.1) in
    let d : to_z w8 p.day ≡ pos p.day = omega (arith, ints, small.2) in
    sym (unmade c.args.text.now p (sym c.in_ok-parts.ensures.told) (λ h. let e : false ≡ true = c.in-Err.ensures.succeeds.1 (rw (y, m, d) h) in cc e))

pub returns-in-Err-clause-only : goal.returns-in-Err-clause-only
returns-in-Err-clause-only c = λ day d. returns-in-Err-clause-told c ∙ day_only c.args.text.now day d
