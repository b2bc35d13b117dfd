use Rattle.std.proofs.Common.{Err, subst}
use Rattle.verilog_reader.specs.Promise.{IsAnswered}
use Rattle.qual_core.specs.Files.{refused}
use Rattle.qual_core.proofs.files.source_in.Goals as goal

pub returns-in_ok-refused_line-in-Err-clause-read : goal.returns-in_ok-refused_line-in-Err-clause-read
returns-in_ok-refused_line-in-Err-clause-read c =
    refused c.requires c.in-Err.refusal (subst (λ l. IsAnswered c.args.bytes.now l (Err c.in-Err.refusal)) c.standard.ensures c.in-Err.ensures.answered)
    c.in_ok-refused_line-in-Err.ensures.told c.in_ok-refused_line-in-Err.ensures.line
