use Rattle.std.proofs.Common.{◌≡◌, ◌∙◌, Err, true, false, rules, sym}
use Rattle.csv.specs.Records.{fields_of}
use Rattle.name_index.specs.Places.{is_known}
use Rattle.tech_reader.specs.Row.{row_of}
use Rattle.tech_reader.specs.Tech.{key}
use Rattle.tech_reader.proofs.Entering.{other_number, wrong_field, second_time, taken, holds_more}
use Rattle.tech_reader.proofs.parts.PartsEntries.enter.Goals as goal

pub returns-in_default : goal.returns-in_default
returns-in_default c =
    λ rows h m. other_number c.args.limits.now rows (fields_of c.args.row.now) c.args.line m c.in_default.ensures

pub returns-in_err-kind : goal.returns-in_err-kind
returns-in_err-kind c =
    λ rows h m.
    let s : c.from_residual.result ≡ Err c.in_err-kind.field-0.0 = search rules in
    rw (s, c.in-Some.ensures) (wrong_field c.args.limits.now rows (row_of c.in-Some.fields) c.args.line c.in_err-kind.field-0.0 m c.in_err-kind.ensures.told)

pub returns-then-contains : goal.returns-then-contains
returns-then-contains c =
    λ rows h m.
    let known : is_known (key (row_of c.in-Some.fields)) c.args.self.now.names ≡ true = rw (c.deref.ensures.value, c.in_ok-key.ensures) at (sym c.contains.ensures ∙ c.if-contains.true) in
    rw c.in-Some.ensures (second_time c.args.limits.now c.args.self.now rows (row_of c.in-Some.fields) c.args.line c.double_name.result h m
    c.in_ok-kind.ensures.told known c.double_name.ensures)

pub returns : goal.returns
returns c =
    λ rows h m.
    let known : is_known (key (row_of c.in-Some.fields)) c.args.self.now.names ≡ false = rw (c.deref.ensures.value, c.in_ok-key.ensures) at (sym c.contains.ensures ∙ c.if-contains.false) in
    rw c.in-Some.ensures (
      taken c.args.limits.now c.args.self.now rows (row_of c.in-Some.fields) c.args.line h m c.in_ok-kind.ensures.told known,
      holds_more c.args.self.now c.keep.new.self rows (row_of c.in-Some.fields) c.deref-2.result.now h c.in_ok-keep.ensures (c.deref-2.ensures.value ∙ c.in_ok-key.ensures),
    )
