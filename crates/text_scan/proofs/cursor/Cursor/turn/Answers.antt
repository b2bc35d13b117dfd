use Rattle.std.proofs.Common.{◌∷◌, sym, ap, ◌∙◌}
use Rattle.text_scan.specs.Tokens.{token}
use Rattle.text_scan.specs.Left.{left}
use Rattle.text_scan.specs.declared.piece.Piece.TheVariants.{Shown}
use Rattle.text_scan.proofs.Scan.{left_passed, left_shown, shown-no_end, word_place}
use Rattle.text_scan.proofs.cursor.Cursor.turn.Goals as goal

pub returns-in-Passed-clause-next : goal.returns-in-Passed-clause-next
returns-in-Passed-clause-next c =
    left_passed c.args.self.now c.advance.new.self c.in-Passed.n c.requires c.in-Passed.ensures.value c.advance.ensures.source c.advance.ensures.style c.advance.ensures.place

pub returns-in-Shown-clause-next : goal.returns-in-Shown-clause-next
returns-in-Shown-clause-next c =
    let moved = c.advance_token.ensures in
    left_shown c.args.self.now c.advance_token.new.self c.in-Shown.kind c.in-Shown.n c.requires c.in-Shown.ensures.value moved.source moved.style moved.place
    ∙ ap (λ z. token c.in-Shown.kind c.args.self.now.place z ∷ left c.advance_token.new.self) (sym moved.at)

pub returns-in-Shown-clause-no_end : goal.returns-in-Shown-clause-no_end
returns-in-Shown-clause-no_end c = shown-no_end c.args.self.now.style _ _ c.in-Shown.kind c.in-Shown.n c.in-Shown.ensures.value

pub advance_token-requires-clause-word : goal.advance_token-requires-clause-word
advance_token-requires-clause-word c = λ is. word_place c.args.self.now c.in-Shown.n c.requires (ap (λ z. Shown z c.in-Shown.n) (sym is) ∙ c.in-Shown.ensures.value)
