use Rattle.std.proofs.Common.{◌≡◌, true, false, ◌∷◌, ◌++◌, sym, ap, ◌∙◌}
use Rattle.text_scan.specs.Left.{is_end}
use Rattle.verilog_directives.specs.Behind.{moved_on}
use Rattle.verilog_directives.specs.Lookahead.{to_come}
use Rattle.verilog_directives.proofs.Looks.{held_first, held_inside, inside_no_end, inside_slice, followed-open}
use Rattle.verilog_directives.proofs.lookahead.Lookahead.take.Goals as goal

pub returns-in-Some-clause-next : goal.returns-in-Some-clause-next
unfolding to_come
returns-in-Some-clause-next c =
    let self = c.args.self.now in
    let here = held_inside _ self.held 0 c.in-Some.token self.inside c.in-Some.ensures in
    ap (λ z. z ++ moved_on self.place self.cursor) (held_first self.held c.in-Some.token c.in-Some.ensures)
    ∙ ap (λ z. c.in-Some.token ∷ z ++ moved_on self.place self.cursor) (sym c.without_first-self.ensures)
    ∙ sym (followed-open c.in-Some.token _ (inside_no_end _ _ here))

pub returns-in-Some-clause-end_stays : goal.returns-in-Some-clause-end_stays
returns-in-Some-clause-end_stays c = λ is. absurd (
    let self = c.args.self.now in
    let other : is_end c.in-Some.token.kind ≡ false = inside_no_end _ _ (held_inside _ self.held 0 c.in-Some.token self.inside c.in-Some.ensures) in
    let ends : is_end c.in-Some.token.kind ≡ true = is in
    cc)

pub returns-in-Some-clause-slice : goal.returns-in-Some-clause-slice
returns-in-Some-clause-slice c =
    let self = c.args.self.now in
    inside_slice self.source.now c.in-Some.token (held_inside _ self.held 0 c.in-Some.token self.inside c.in-Some.ensures)
