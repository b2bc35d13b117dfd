use Rattle.std.proofs.Common.{◌≡◌, true, sym, ap, subst, ◌∙◌}
use Rattle.text_scan.specs.Left.{IsSliceOf, is_end, followed, left, source}
use Rattle.text_scan.proofs.Scan.{goes_on_from, token_kind, slice_up_to, end_slice}
use Rattle.text_scan.proofs.cursor.Cursor.next_token.Goals as goal

pub returns-in-Some-clause-next : goal.returns-in-Some-clause-next
returns-in-Some-clause-next c =
    c.loop-self.invariant.so_far ∙ c.in-Some.ensures.next
    ∙ sym (goes_on_from c.in-Some.kind c.loop-self.self.place c.turn.new.self.place.at (left c.turn.new.self) c.in-Some.ensures.no_end)
    ∙ ap (λ z. followed z (left c.turn.new.self)) (sym c.make_token.ensures)

pub returns-in-Some-clause-slice : goal.returns-in-Some-clause-slice
returns-in-Some-clause-slice c = subst (IsSliceOf (source c.turn.new.self)) (sym c.make_token.ensures) (slice_up_to c.turn.new.self c.in-Some.kind c.loop-self.self.place c.turn.ensures.further)

pub returns-clause-slice : goal.returns-clause-slice
returns-clause-slice c = subst (IsSliceOf (source c.loop-self.self)) (sym c.make_token-2.ensures) (end_slice c.loop-self.self)

pub returns-in-Some-clause-end_stays : goal.returns-in-Some-clause-end_stays
returns-in-Some-clause-end_stays c = λ is. absurd (
    let kind : c.make_token.result.kind ≡ c.in-Some.kind = ap (λ z. z.kind) c.make_token.ensures ∙ token_kind c.in-Some.kind _ _ in
    let open_kind = c.in-Some.ensures.no_end in
    let end_kind : is_end c.in-Some.kind ≡ true = ap is_end (sym kind) ∙ is in
    cc)
