use Rattle.std.proofs.Common.{sym, ap, ◌∙◌, Ok}
use Rattle.text_scan.specs.Left.{left}
use Rattle.liberty_statements.specs.Answer.{same}
use Rattle.liberty_statements.proofs.WholeText.{begins, goes_on, smaller, halts_so, ends_so}
use Rattle.liberty_statements.proofs.reader.read_statements.Goals as goal

pub tokens-init : goal.tokens-init
tokens-init c =
    begins c.args.source.now c.args.limits.now c.new-machine.result _ c.requires c.new-machine.ensures (sym c.new-cursor.ensures.left ∙ c.next_token-token.ensures.next)

pub tokens-preserved : goal.tokens-preserved
tokens-preserved c =
    goes_on c.args.source.now c.args.limits.now c.tokens.machine c.take.new.self c.tokens.token (left c.tokens.cursor) _ (sym c.tokens-test.ensures) c.tokens.invariant c.in_default.ensures.bounded c.in_default.ensures.leads
    c.next_token-token-in-tokens.ensures.next

pub tokens-smaller : goal.tokens-smaller
tokens-smaller c = smaller c.args.source.now c.args.limits.now c.tokens.token (left c.tokens.cursor) _ (sym c.tokens-test.ensures) c.next_token-token-in-tokens.ensures.next

pub returns-in-Err : goal.returns-in-Err
returns-in-Err c =
    halts_so c.args.source.now c.args.limits.now (Unit {0}) same c.in-Err.halt c.halted.result c.tokens.machine c.take.new.self c.tokens.token (left c.tokens.cursor) c.tokens.invariant c.in-Err.ensures.leads c.halted.ensures

pub returns-in-Err-take : goal.returns-in-Err-take
returns-in-Err-take c =
    halts_so c.args.source.now c.args.limits.now (Unit {0}) same c.in-Err-take.halt c.halted-in-Err-take.result c.tokens.machine c.take-2.new.self c.tokens.token (left c.tokens.cursor) c.tokens.invariant c.in-Err-take.ensures.leads c.halted-in-Err-take.ensures

pub returns : goal.returns
returns c =
    ends_so c.args.source.now c.args.limits.now same c.tokens.machine c.take-2.new.self c.tokens.token (left c.tokens.cursor) (sym c.tokens-test.ensures) c.tokens.invariant c.in_default-take.ensures.leads
    ∙ ap Ok (sym c.into_statements.ensures)
