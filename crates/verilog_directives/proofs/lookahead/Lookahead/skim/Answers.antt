use Rattle.std.proofs.Common.{◌≡◌, false, List, [], ◌∷◌, ◌++◌, sym, subst, ap, ◌∙◌, arith}
use Rattle.text_scan.specs.declared.token.Style.TheVariants.{Verilog}
use Rattle.text_scan.specs.declared.token.Token.{Token}
use Rattle.text_scan.specs.Left.{is_end, tokens_at}
use Rattle.verilog_directives.specs.Held.{tokens}
use Rattle.verilog_directives.specs.Behind.{moved_on, place_of, Stands}
use Rattle.verilog_directives.specs.Lookahead.{to_come}
use Rattle.verilog_directives.specs.Skims.{Skims}
use Rattle.verilog_directives.proofs.Looks.{followed-open, few_held}
use Rattle.verilog_directives.proofs.Skimmed.{none_skimmed}
use Rattle.verilog_directives.proofs.lookahead.Lookahead.skim.Goals as goal

pub returns-then-is_end-clause-skims : goal.returns-then-is_end-clause-skims
unfolding to_come
returns-then-is_end-clause-skims c =
    let self = c.args.self.now in
    let first = c.scan-first in
    let after = first.new.self in
    let same : to_come after ≡ to_come self = ap (λ z. tokens z ++ moved_on after.place after.cursor) first.ensures.held
    ∙ ap (λ z. tokens self.held ++ z) (first.ensures.end_stays (sym c.is_end.ensures ∙ c.if-is_end.true)) in
    subst (λ z. Skims self.source.now c.args.line z (to_come after)) same (none_skimmed self.source.now c.args.line (to_come after))

pub stand_at-requires-clause-counted : goal.stand_at-requires-clause-counted
stand_at-requires-clause-counted c =
    let self = c.args.self.now in
    let first = c.scan-first in
    let after = first.new.self in
    let shut : is_end first.result.kind ≡ false = sym c.is_end.ensures ∙ c.if-is_end.false in
    let stands : Stands self.source.now first.result (moved_on after.place after.cursor) = self.stand 0 first.result (moved_on after.place after.cursor)
    (first.ensures.next ∙ followed-open first.result (moved_on after.place after.cursor) shut) shut in
    c.skimmed.ensures.counted stands.counted

pub returns-clause-skims : goal.returns-clause-skims
unfolding to_come
returns-clause-skims c =
    let self = c.args.self.now in
    let first = c.scan-first in
    let after = first.new.self in
    let rest : List Token = moved_on after.place after.cursor in
    let shut : is_end first.result.kind ≡ false = sym c.is_end.ensures ∙ c.if-is_end.false in
    let many = c.if-len-gt0.false in
    let len = c.len.ensures in
    let none : tokens self.held ≡ [] = few_held self.held (omega arith) in
    let begins : moved_on self.place self.cursor ≡ first.result ∷ rest = first.ensures.next ∙ followed-open first.result rest shut in
    let stands : Stands self.source.now first.result rest = self.stand 0 first.result rest begins shut in
    let here : to_come self ≡ tokens_at Verilog self.source.now (place_of first.result) = ap (λ z. z ++ moved_on self.place self.cursor) none ∙ begins ∙ stands.tokens in
    let skims : Skims self.source.now c.args.line (tokens_at Verilog self.source.now (place_of first.result)) (tokens_at Verilog self.source.now c.skimmed.result)
    = subst (λ z. Skims z c.args.line (tokens_at Verilog z (place_of first.result)) (tokens_at Verilog z c.skimmed.result)) first.ensures.source c.skimmed.ensures.skims in
    subst (λ z. Skims self.source.now c.args.line z (to_come c.stand_at.new.self)) (sym here)
    (subst (λ z. Skims self.source.now c.args.line (tokens_at Verilog self.source.now (place_of first.result)) z)
    (sym (c.stand_at.ensures.to_come ∙ ap (λ z. tokens_at Verilog z c.skimmed.result) first.ensures.source)) skims)
