use Rattle.std.proofs.Common.{sym, refl, ◌∙◌}
use Rattle.lef_reader.specs.Passing.{past_statement}
use Rattle.lef_reader.specs.Steps.{rest, more}
use Rattle.lef_reader.proofs.OverTokens.{look_goes}
use Rattle.lef_reader.proofs.Skipped.{gives_along, gives_behind, statement_read}
use Rattle.lef_reader.proofs.PinReads.{statement_goes, item_direction, item_use, item_port, item_other}
use Rattle.lef_reader.proofs.macro_text.MacroText.pin_item.Goals as goal

pub statement-requires : goal.statement-requires
statement-requires c = look_goes c.args.source.now c.args.tokens.now.ahead _ refl (statement_goes _ c.requires)

pub returns-in-Direction : goal.returns-in-Direction
returns-in-Direction c =
    gives_along c.direction.result _ _ c.direction.new.self _ (item_direction c.args.source.now c.args.self.now c.args.tokens.now.ahead (more c.args.tokens.now) (sym c.in-Direction.ensures)) c.direction.ensures

pub returns-in-Use : goal.returns-in-Use
returns-in-Use c =
    gives_along c.use_statement.result _ _ c.use_statement.new.self _ (item_use c.args.source.now c.args.self.now c.args.tokens.now.ahead (more c.args.tokens.now) (sym c.in-Use.ensures)) c.use_statement.ensures

pub returns-in-Port : goal.returns-in-Port
returns-in-Port c =
    gives_along c.port.result _ _ c.port.new.self _ (item_port c.args.source.now c.args.self.now c.args.tokens.now.ahead (more c.args.tokens.now) (sym c.in-Port.ensures)) c.port.ensures

pub returns-in_default : goal.returns-in_default
returns-in_default c =
    let source = c.args.source.now in
    let t = c.args.tokens.now.ahead in
    let ts = more c.args.tokens.now in
    gives_behind c.statement.result (past_statement source (rest c.args.tokens.now)) _ c.args.self.now _
    (item_other source c.look.result c.args.self.now t ts c.look.ensures c.requires c.in_default.not-Direction c.in_default.not-Use c.in_default.not-Port
    ∙ statement_read source c.args.self.now t ts)
    c.statement.ensures
