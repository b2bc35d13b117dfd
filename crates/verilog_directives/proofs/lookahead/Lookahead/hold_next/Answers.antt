use Rattle.std.proofs.Common.{◌≡◌, [], ◌∷◌, ◌++◌, length, true, false, append_assoc, sym, ap, ◌∙◌}
use Rattle.std.specs.Prelude.{slice_get}
use Rattle.text_scan.specs.Left.{is_end}
use Rattle.verilog_directives.specs.Behind.{moved_on}
use Rattle.verilog_directives.specs.Held.{tokens}
use Rattle.verilog_directives.specs.Lookahead.{to_come}
use Rattle.verilog_directives.proofs.Looks.{inside_last, slice_inside, followed-open, followed-first, get-seam}
use Rattle.verilog_directives.proofs.lookahead.Lookahead.hold_next.Goals as goal

pub invariant_of-self-clause-inside : goal.invariant_of-self-clause-inside
invariant_of-self-clause-inside c =
    let token = c.scan-token in
    let after = token.new.self in
    let shut : is_end token.result.kind ≡ false = sym c.is_end.ensures ∙ c.if-not-is_end.true in
    inside_last _ after.held _ token.result after.inside (slice_inside after.source.now token.result token.ensures.slice shut) c.with_last-self.ensures

pub returns-then-not-is_end-clause-to_come : goal.returns-then-not-is_end-clause-to_come
unfolding to_come
returns-then-not-is_end-clause-to_come c =
    let self = c.args.self.now in
    let token = c.scan-token in
    let after = token.new.self in
    let shut : is_end token.result.kind ≡ false = sym c.is_end.ensures ∙ c.if-not-is_end.true in
    ap (λ z. z ++ moved_on after.place after.cursor) c.with_last-self.ensures
    ∙ append_assoc (tokens after.held) (token.result ∷ []) (moved_on after.place after.cursor)
    ∙ ap (λ z. tokens z ++ token.result ∷ moved_on after.place after.cursor) token.ensures.held
    ∙ ap (λ z. tokens self.held ++ z) (sym (token.ensures.next ∙ followed-open token.result (moved_on after.place after.cursor) shut))

pub returns-else-not-is_end-clause-value : goal.returns-else-not-is_end-clause-value
unfolding to_come
returns-else-not-is_end-clause-value c =
    let self = c.args.self.now in
    let token = c.scan-token in
    let after = token.new.self in
    let ended : is_end token.result.kind ≡ true = sym c.is_end.ensures ∙ c.if-not-is_end.false in
    let first = followed-first token.result (moved_on after.place after.cursor) in
    ap (λ z. slice_get (tokens z ++ moved_on after.place after.cursor) (length (tokens self.held))) token.ensures.held
    ∙ ap (λ z. slice_get (tokens self.held ++ z) (length (tokens self.held))) (token.ensures.end_stays ended ∙ token.ensures.next ∙ first.1)
    ∙ get-seam (tokens self.held) token.result first.0
