use Rattle.std.proofs.Common.{◌≡◌, ◌<◌, true, length, sym, ap, subst, ◌∙◌}
use Rattle.std.specs.Prelude.{IfOk, IfSome, IfNone, OnErr}
use Rattle.verilog_directives.specs.Lookahead.{to_come}
use Rattle.verilog_directives.specs.Left.{left_from, is_last}
use Rattle.verilog_directives.specs.Directives.{left, state, before}
use Rattle.verilog_directives.proofs.NextTurn.{ends_here, shows_wrong, passes, keeps, directs_back, shows_read, passes_unread, fewer_to_come, back_again, left_again}
use Rattle.verilog_directives.proofs.directives.Directives.turn.Goals as goal

pub returns-then-is_end-clause-ok : goal.returns-then-is_end-clause-ok
unfolding left
returns-then-is_end-clause-ok c =
    let self = c.args.self.now in
    let token = c.take-token in
    rw c.end_item.ensures (ends_here self.tokens.source.now self.limits (state self) token.result _ _ token.ensures.next _ (sym c.is_end.ensures ∙ c.if-is_end.true))

pub returns-then-is_wrong-clause-ok : goal.returns-then-is_wrong-clause-ok
unfolding left
returns-then-is_wrong-clause-ok c =
    let self = c.args.self.now in
    let token = c.take-token in
    rw c.plain.ensures (ap (λ z. left_from z self.limits (state self) 0 (to_come self.tokens)) (sym token.ensures.source)
    ∙ shows_wrong token.new.self.source.now self.limits (state self) token.result _ _ token.ensures.next
    (sym c.is_end.ensures ∙ c.if-is_end.false) (sym c.is_wrong.ensures ∙ c.if-is_wrong.true))

pub returns-then-passes-clause-ok : goal.returns-then-passes-clause-ok
unfolding left
returns-then-passes-clause-ok c =
    let self = c.args.self.now in
    let token = c.take-token in
    let line = c.line_after-self in
    ap (λ z. left_from z self.limits (state self) 0 (to_come self.tokens)) (sym token.ensures.source)
    ∙ passes token.new.self.source.now self.limits (state self) token.result _ _ token.ensures.next
    (sym c.is_end.ensures ∙ c.if-is_end.false) (sym c.is_wrong.ensures ∙ c.if-is_wrong.false) (sym c.passes.ensures ∙ c.if-passes.true)
    ∙ ap (λ z. left_from token.new.self.source.now self.limits (record (state self) { line = z }) 0 (to_come token.new.self)) (sym line.ensures.value)
    ∙ ap (λ z. left_from z self.limits (record (state self) { line = line.result }) 0 (to_come token.new.self)) (sym line.ensures.source)
    ∙ ap (left_from line.new.self.source.now self.limits (record (state self) { line = line.result }) 0) (sym line.ensures.to_come)

pub returns-then-passes-clause-fewer : goal.returns-then-passes-clause-fewer
returns-then-passes-clause-fewer c =
    let token = c.take-token in
    rw c.line_after-self.ensures.to_come (fewer_to_come token.new.self.source.now c.args.self.now.limits (state c.args.self.now) token.result _ _ token.ensures.next (sym c.is_end.ensures ∙ c.if-is_end.false))

pub returns-then-keeps-clause-ok : goal.returns-then-keeps-clause-ok
unfolding left
returns-then-keeps-clause-ok c =
    let self = c.args.self.now in
    let token = c.take-token in
    rw (c.plain-then-keeps.ensures, c.after_kept-self.ensures) (ap (λ z. left_from z self.limits (state self) 0 (to_come self.tokens)) (sym token.ensures.source)
    ∙ keeps token.new.self.source.now self.limits (state self) token.result _ _ token.ensures.next
    (sym c.is_end.ensures ∙ c.if-is_end.false) (sym c.is_wrong.ensures ∙ c.if-is_wrong.false) (sym c.passes.ensures ∙ c.if-passes.false)
    (sym c.keeps.ensures ∙ c.if-keeps.true))

pub returns-then-is_mark-clause-ok : goal.returns-then-is_mark-clause-ok
unfolding left
returns-then-is_mark-clause-ok c =
    let self = c.args.self.now in
    let token = c.take-token in
    let back = c.put_back.new.self in
    let turn = directs_back token.new.self.source.now self.limits (state self) token.result _ _ token.ensures.next (to_come back) back.source.now
    c.put_back.ensures.to_come c.put_back.ensures.source
    (sym c.is_end.ensures ∙ c.if-is_end.false) (sym c.is_wrong.ensures ∙ c.if-is_wrong.false) (sym c.passes.ensures ∙ c.if-passes.false)
    (sym c.keeps.ensures ∙ c.if-keeps.false) (sym c.is_mark.ensures ∙ c.if-is_mark.true) in
    subst (λ z. IfOk c.obey.result (λ shown. z ≡ before shown (left c.obey.new.self)))
    (sym (ap (λ z. left_from z self.limits (state self) 0 (to_come self.tokens)) (sym token.ensures.source) ∙ turn)) c.obey.ensures.ok

pub returns-then-is_read-clause-ok : goal.returns-then-is_read-clause-ok
unfolding left
returns-then-is_read-clause-ok c =
    let self = c.args.self.now in
    let token = c.take-token in
    rw (c.plain-then-is_read.ensures, c.after_token-self.ensures) (ap (λ z. left_from z self.limits (state self) 0 (to_come self.tokens)) (sym token.ensures.source)
    ∙ shows_read token.new.self.source.now self.limits (state self) token.result _ _ token.ensures.next
    (sym c.is_end.ensures ∙ c.if-is_end.false) (sym c.is_wrong.ensures ∙ c.if-is_wrong.false) (sym c.passes.ensures ∙ c.if-passes.false)
    (sym c.keeps.ensures ∙ c.if-keeps.false) (sym c.is_mark.ensures ∙ c.if-is_mark.false) (sym c.is_read.ensures ∙ c.if-is_read.true))

pub returns-clause-ok : goal.returns-clause-ok
unfolding left
returns-clause-ok c =
    let self = c.args.self.now in
    let token = c.take-token in
    ap (λ z. left_from z self.limits (state self) 0 (to_come self.tokens)) (sym token.ensures.source)
    ∙ passes_unread token.new.self.source.now self.limits (state self) token.result _ _ token.ensures.next
    (sym c.is_end.ensures ∙ c.if-is_end.false) (sym c.is_wrong.ensures ∙ c.if-is_wrong.false) (sym c.passes.ensures ∙ c.if-passes.false)
    (sym c.keeps.ensures ∙ c.if-keeps.false) (sym c.is_mark.ensures ∙ c.if-is_mark.false) (sym c.is_read.ensures ∙ c.if-is_read.false)

pub returns-clause-fewer : goal.returns-clause-fewer
returns-clause-fewer c =
    let token = c.take-token in
    fewer_to_come token.new.self.source.now c.args.self.now.limits (state c.args.self.now) token.result _ _ token.ensures.next (sym c.is_end.ensures ∙ c.if-is_end.false)

pub returns-then-is_mark-clause-last_stays : goal.returns-then-is_mark-clause-last_stays
unfolding left
returns-then-is_mark-clause-last_stays c =
    let self = c.args.self.now in
    let token = c.take-token in
    let back = c.put_back.new.self in
    let same = left_again self.tokens.source.now self.limits (state self) token.result _ _ token.ensures.next (to_come back) back.source.now
    c.put_back.ensures.to_come (c.put_back.ensures.source ∙ token.ensures.source) (sym c.is_end.ensures ∙ c.if-is_end.false) in
    subst (λ z. IfOk c.obey.result (λ shown. IfSome shown (λ item. is_last item ≡ true → left c.obey.new.self ≡ z))) same c.obey.ensures.last_stays

pub returns-then-is_mark-clause-fewer : goal.returns-then-is_mark-clause-fewer
returns-then-is_mark-clause-fewer c =
    let self = c.args.self.now in
    let token = c.take-token in
    let back = c.put_back.new.self in
    let same = back_again self.tokens.source.now self.limits (state self) token.result _ _ token.ensures.next (to_come back) c.put_back.ensures.to_come (sym c.is_end.ensures ∙ c.if-is_end.false) in
    subst (λ z. IfOk c.obey.result (λ shown. IfNone shown (length (to_come c.obey.new.self.tokens) < length z))) same c.obey.ensures.fewer

pub returns-then-is_mark-clause-err : goal.returns-then-is_mark-clause-err
unfolding left
returns-then-is_mark-clause-err c =
    let self = c.args.self.now in
    let token = c.take-token in
    let back = c.put_back.new.self in
    let same = left_again self.tokens.source.now self.limits (state self) token.result _ _ token.ensures.next (to_come back) back.source.now
    c.put_back.ensures.to_come (c.put_back.ensures.source ∙ token.ensures.source) (sym c.is_end.ensures ∙ c.if-is_end.false) in
    subst (λ z. OnErr c.obey.result (left c.obey.new.self ≡ z)) same c.obey.ensures.err
