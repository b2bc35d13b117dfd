use Rattle.std.proofs.Common.{◌≡◌, ◌∙◌, Err, rules, sym}
use Rattle.csv_records.proofs.Whole.{answered, refused_so}
use Rattle.csv_records.specs.Records.{records_of}
use Rattle.waivers.specs.File.{told, waivers_of}
use Rattle.waivers.proofs.Kept.{kept}
use Rattle.waivers.proofs.file.read_waivers.Goals as goal

pub returns-in_err-read-clause-told : goal.returns-in_err-read-clause-told
unfolding told
returns-in_err-read-clause-told c =
    let s : c.from_residual.result ≡ Err c.in_err-read.field-0.0 = search rules in
    rw s (refused_so c.in_err-read.field-0.0 _ (waivers_of (records_of c.args.text.now)) c.in_err-read.ensures)

pub returns-clause-told : goal.returns-clause-told
unfolding told
returns-clause-told c =
    answered _ (waivers_of (records_of c.args.text.now)) c.in_ok-of.field-0 c.in_ok-read.ensures.0 (sym (c.in_ok-of.ensures ∙ c.in_ok-read.ensures.1))

pub returns-clause-kept : goal.returns-clause-kept
returns-clause-kept c =
    kept c.args.limits.now (records_of c.args.text.now) c.in_ok-of.field-0 c.in_ok-read.ensures.0 (c.in_ok-of.ensures ∙ c.in_ok-read.ensures.1)
