use Rattle.std.proofs.Common.{◌≡◌, Err, rules}
use Rattle.csv.specs.Records.{fields_of}
use Rattle.waivers.specs.Row.{row_of}
use Rattle.waivers.proofs.Entering.{held_more, other_number, taken, wrong_field}
use Rattle.waivers.proofs.rows.RowsEntries.enter.Goals as goal

pub returns-in_default : goal.returns-in_default
returns-in_default c = λ rows h m. other_number c.args.limits.now rows (fields_of c.args.row.now) c.args.line m c.in_default.ensures

pub returns-in_err-terms : goal.returns-in_err-terms
returns-in_err-terms c =
    λ rows h m.
    let s : c.from_residual.result ≡ Err c.in_err-terms.field-0.0 = search rules in
    rw (s, c.in-Some.ensures) (wrong_field c.args.limits.now rows (row_of c.in-Some.fields) c.args.line c.in_err-terms.field-0.0 m c.in_err-terms.ensures.told)

pub returns : goal.returns
returns c =
    λ rows h m.
    rw c.in-Some.ensures (
      taken c.args.limits.now rows (row_of c.in-Some.fields) c.args.line m c.in_ok-terms.ensures.told,
      held_more c.args.self.now.rows c.push.new.self rows (row_of c.in-Some.fields) c.in_ok-waiver.waiver h c.in_ok-waiver.ensures c.in_ok-push.ensures.ok,
    )
