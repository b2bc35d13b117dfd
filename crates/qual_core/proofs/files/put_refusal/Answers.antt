use Rattle.std.proofs.Common.{◌∙◌, ap, codes, decimal}
use Rattle.std.proofs.lemmas.Result.{on_ok_weaker}
use Rattle.qual_core.specs.Files.{words_of}
use Rattle.qual_core.proofs.Reading.{two_numbers}
use Rattle.qual_core.proofs.files.put_refusal.Goals as goal

pub returns-in_ok-line-in-Syntax-clause-ok : goal.returns-in_ok-line-in-Syntax-clause-ok
returns-in_ok-line-in-Syntax-clause-ok c =
    on_ok_weaker c.put_counted.result
    (λ e. two_numbers c.args.text.now.items c.put_counted.new.text.items (words_of c.args.refusal.now) (codes "syntax line ") c.as_bytes.result.now (codes " column ") (decimal c.in-Syntax.line) (decimal c.in-Syntax.column)
    e (c.as_bytes.ensures.value ∙ c.in_ok-line-in-Syntax.ensures.ok) (ap words_of c.in-Syntax.is))
    c.put_counted.ensures.ok
