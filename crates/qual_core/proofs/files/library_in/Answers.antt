use Rattle.std.proofs.Common.{Err, subst}
use Rattle.text_scan.specs.declared.limits.Limits.{Limits}
use Rattle.grammar.specs.Answers.{IsAnswer}
use Rattle.liberty_statements.specs.Answer.{library_file, file_tokens, told}
use Rattle.file_rules.specs.Told.{Agrees}
use Rattle.liberty_statements.specs.Does.{nothing}
use Rattle.liberty_statements.specs.ToCome.{Answer}
use Rattle.liberty_reader.specs.Cells.{library as library_of}
use Rattle.liberty_reader.specs.Promise.{IsAnswered}
use Rattle.qual_core.specs.Files.{IsLibrary, refused}
use Rattle.qual_core.specs.declared.command.FileOption.TheVariants.{Liberty}
use Rattle.qual_core.proofs.Reading.{one_library, only_err, library_as}
use Rattle.qual_core.proofs.files.library_in.Goals as goal

pub returns-in_ok-refused_line-in-Err-clause-read : goal.returns-in_ok-refused_line-in-Err-clause-read
returns-in_ok-refused_line-in-Err-clause-read c =
    refused c.requires c.in-Err.refusal (subst (λ l. IsAnswered c.args.bytes.now l (Err c.in-Err.refusal)) c.standard.ensures c.in-Err.ensures.answered)
    c.in_ok-refused_line-in-Err.ensures.told c.in_ok-refused_line-in-Err.ensures.line

pub returns-in_ok-refused_line-in-Err-clause-only : goal.returns-in_ok-refused_line-in-Err-clause-only
returns-in_ok-refused_line-in-Err-clause-only c other h =
    let bytes = c.args.bytes.now in
    let only = subst (λ (l : Limits). (o : Answer) → IsAnswer (library_file bytes l) nothing (file_tokens bytes) o → Agrees (Err c.in-Err.refusal) (told bytes l (library_of bytes) o)) c.standard.ensures c.in-Err.ensures.only in
    only_err Liberty bytes (IsLibrary bytes) c.in-Err.refusal c.in_ok-refused_line-in-Err.field-0 c.requires c.in_ok-refused_line-in-Err.ensures.line
    (one_library bytes (Err c.in-Err.refusal) c.in_ok-refused_line-in-Err.ensures.told only) other (library_as bytes other h)
