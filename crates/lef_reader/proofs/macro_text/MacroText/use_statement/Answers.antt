use Rattle.std.proofs.Common.{sym, ap, refl, ◌∙◌, ◌∷◌}
use Rattle.lef_reader.specs.Passing.{past_semicolon}
use Rattle.lef_reader.specs.MacroGrammar.{use_statement}
use Rattle.lef_reader.specs.Steps.{rest}
use Rattle.grammar.specs.Reading.{read}
use Rattle.lef_reader.proofs.OverTokens.{look_goes}
use Rattle.lef_reader.proofs.Skipped.{gives_behind, semicolon_read}
use Rattle.lef_reader.proofs.PinReads.{use_bad, use_goes, use_ok, used}
use Rattle.lef_reader.proofs.macro_text.MacroText.use_statement.Goals as goal

pub shift-requires : goal.shift-requires
shift-requires c = look_goes c.args.source.now c.args.tokens.now.ahead _ c.requires refl

pub returns-then-not-is_use_word : goal.returns-then-not-is_use_word
returns-then-not-is_use_word c =
    ap (read (use_statement c.args.source.now) c.args.self.now) c.shift.ensures
    ∙ use_bad c.args.source.now c.args.self.now c.look-look.result c.args.tokens.now.ahead c.shift.new.self.ahead _ c.requires c.look-look.ensures (sym c.is_use_word.ensures ∙ c.if-not-is_use_word.true)

pub shift-requires-2 : goal.shift-requires-2
shift-requires-2 c = look_goes c.args.source.now c.shift.new.self.ahead c.look-look.result (sym c.look-look.ensures) (use_goes c.look-look.result (sym c.is_use_word.ensures ∙ c.if-not-is_use_word.false))

pub returns : goal.returns
returns c =
    let source = c.args.source.now in
    let m = c.args.self.now in
    let tokens = rest c.shift-2.new.self in
    gives_behind c.semicolon.result (past_semicolon source tokens) _ (used c.kind_of-self.result m) _
    (ap (read (use_statement source) m) (c.shift.ensures ∙ ap (λ z. c.args.tokens.now.ahead ∷ z) c.shift-2.ensures)
    ∙ use_ok source m c.kind_of-self.result c.look-look.result c.args.tokens.now.ahead c.shift.new.self.ahead tokens c.requires c.look-look.ensures (sym c.is_use_word.ensures ∙ c.if-not-is_use_word.false) c.kind_of-self.ensures
    ∙ semicolon_read source (used c.kind_of-self.result m) tokens)
    c.semicolon.ensures
