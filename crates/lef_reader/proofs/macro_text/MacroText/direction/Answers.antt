use Rattle.std.proofs.Common.{sym, ap, refl, ◌∙◌, ◌∷◌}
use Rattle.lef_reader.specs.MacroGrammar.{direction, direction_end}
use Rattle.lef_reader.specs.Steps.{rest}
use Rattle.grammar.specs.Reading.{read}
use Rattle.lef_reader.proofs.OverTokens.{look_goes}
use Rattle.lef_reader.proofs.Skipped.{gives_along}
use Rattle.lef_reader.proofs.PinReads.{direction_bad, direction_goes, direction_ok, directed}
use Rattle.lef_reader.proofs.macro_text.MacroText.direction.Goals as goal

pub shift-requires : goal.shift-requires
shift-requires c = look_goes c.args.source.now c.args.tokens.now.ahead _ c.requires refl

pub returns-then-not-is_direction_word : goal.returns-then-not-is_direction_word
returns-then-not-is_direction_word c =
    ap (read (direction c.args.source.now) c.args.self.now) c.shift.ensures
    ∙ direction_bad c.args.source.now c.args.self.now c.look-look.result c.args.tokens.now.ahead c.shift.new.self.ahead _ c.requires c.look-look.ensures (sym c.is_direction_word.ensures ∙ c.if-not-is_direction_word.true)

pub shift-requires-2 : goal.shift-requires-2
shift-requires-2 c = look_goes c.args.source.now c.shift.new.self.ahead c.look-look.result (sym c.look-look.ensures) (direction_goes c.look-look.result (sym c.is_direction_word.ensures ∙ c.if-not-is_direction_word.false))

pub returns : goal.returns
returns c =
    let source = c.args.source.now in
    let m = c.args.self.now in
    let tokens = rest c.shift-2.new.self in
    let d = c.direction_of-direction.result in
    gives_along c.direction_end.result _ (read (direction_end source c.is_output.result) (directed d m) tokens) (directed d m) _
    (ap (read (direction source) m) (c.shift.ensures ∙ ap (λ z. c.args.tokens.now.ahead ∷ z) c.shift-2.ensures)
    ∙ direction_ok source m d c.look-look.result c.args.tokens.now.ahead c.shift.new.self.ahead tokens c.requires c.look-look.ensures (sym c.is_direction_word.ensures ∙ c.if-not-is_direction_word.false) c.direction_of-direction.ensures
    ∙ ap (λ o. read (direction_end source o) (directed d m) tokens) (sym c.is_output.ensures))
    (c.direction_end.ensures (directed d m))
