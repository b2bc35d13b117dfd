use Rattle.std.proofs.Common.{None, sym, ap, refl, ◌∙◌}
use Rattle.lef_reader.specs.Passing.{passed, dropped, past_statement}
use Rattle.lef_reader.specs.MacroGrammar.{item}
use Rattle.lef_reader.specs.Steps.{rest, more}
use Rattle.lef_reader.specs.declared.until.Until.TheVariants.{End}
use Rattle.grammar.specs.Reading.{read}
use Rattle.lef_reader.proofs.OverTokens.{look_goes}
use Rattle.lef_reader.proofs.Skipped.{gives_along, gives_behind, rest_read, statement_read}
use Rattle.lef_reader.proofs.PinReads.{statement_goes}
use Rattle.lef_reader.proofs.MacroReads.{item_pin, item_shapes, item_size, item_other}
use Rattle.lef_reader.proofs.macro_text.MacroText.item.Goals as goal

pub statement-requires : goal.statement-requires
statement-requires c = look_goes c.args.source.now c.args.tokens.now.ahead _ refl (statement_goes _ c.requires)

pub shift-requires : goal.shift-requires
shift-requires c = look_goes c.args.source.now c.args.tokens.now.ahead _ refl (statement_goes _ c.requires)

pub returns-in-Pin : goal.returns-in-Pin
returns-in-Pin c =
    gives_along c.pin.result _ _ c.pin.new.self _ (item_pin c.args.source.now c.args.limits.now c.args.self.now c.args.tokens.now.ahead (more c.args.tokens.now) (sym c.in-Pin.ensures)) c.pin.ensures

pub returns-in-Size : goal.returns-in-Size
returns-in-Size c =
    gives_along c.size.result _ _ c.size.new.self _ (item_size c.args.source.now c.args.limits.now c.args.self.now c.args.tokens.now.ahead (more c.args.tokens.now) (sym c.in-Size.ensures)) c.size.ensures

pub returns-in-Shapes : goal.returns-in-Shapes
returns-in-Shapes c =
    let source = c.args.source.now in
    let m = c.args.self.now in
    let tokens = rest c.shift.new.self in
    gives_behind c.pass.result (dropped (passed source End None tokens)) _ m _
    (ap (read (item source c.args.limits.now) m) c.shift.ensures
    ∙ item_shapes source c.args.limits.now m c.args.tokens.now.ahead tokens (sym c.in-Shapes.ensures)
    ∙ rest_read source End None m tokens)
    c.pass.ensures

pub returns-in_default : goal.returns-in_default
returns-in_default c =
    let source = c.args.source.now in
    let t = c.args.tokens.now.ahead in
    let ts = more c.args.tokens.now in
    gives_behind c.statement.result (past_statement source (rest c.args.tokens.now)) _ c.args.self.now _
    (item_other source c.args.limits.now c.look.result c.args.self.now t ts c.look.ensures c.requires c.in_default.not-Pin c.in_default.not-Shapes c.in_default.not-Size
    ∙ statement_read source c.args.self.now t ts)
    c.statement.ensures
