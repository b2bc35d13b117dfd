use Rattle.std.proofs.Common.{◌≡◌, Err, rules, sym}
use Rattle.csv_records.proofs.Whole.{answered, refused_so}
use Rattle.csv_records.specs.Records.{records_of}
use Rattle.tech_reader.specs.Tech.{tech_of, told}
use Rattle.tech_reader.proofs.Lawful.{lawful}
use Rattle.tech_reader.proofs.public_call.read_tech.Goals as goal

pub returns-in_err-parts-clause-told : goal.returns-in_err-parts-clause-told
unfolding told
returns-in_err-parts-clause-told c =
    let s : c.from_residual.result ≡ Err c.in_err-parts.field-0.0 = search rules in
    rw s (refused_so c.in_err-parts.field-0.0 _ (tech_of (records_of c.args.text.now)) c.in_err-parts.ensures)

pub returns-clause-told : goal.returns-clause-told
unfolding told
returns-clause-told c =
    answered _ (tech_of (records_of c.args.text.now)) c.into_tech.result c.in_ok-parts.ensures.0
    (sym (c.into_tech.ensures (records_of c.args.text.now) c.in_ok-parts.ensures.1))

pub returns-clause-kept : goal.returns-clause-kept
returns-clause-kept c = lawful c.args.limits.now (records_of c.args.text.now) c.into_tech.result (returns-clause-told c)
