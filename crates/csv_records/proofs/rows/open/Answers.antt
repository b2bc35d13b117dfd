use Rattle.std.proofs.Common.{◌∙◌, inr, refl}
use Rattle.csv.specs.Reading.{strip_bom}
use Rattle.csv_records.specs.Records.{records_of}
use Rattle.csv_records.proofs.rows.open.Goals as goal

pub returns : goal.returns
unfolding records_of
returns c =
    let fr = c.from_reader.ensures in
    let e = c.has_headers.ensures in
    let d = c.flexible.ensures in
    record {
      ready = inr (inr (rw (d, e) at fr.has_headers, fr.headers));
      plain = rw (d, e) at fr.trim ∙ c.new.ensures.trim;
      config = rw (d, e) at fr.config ∙ c.new.ensures.config;
      flexible = rw d at fr.flexible;
      between = rw fr.state refl;
      bytes = strip_bom c.args.text.now;
      source = fr.source;
      gives = rw fr.state refl;
    }
