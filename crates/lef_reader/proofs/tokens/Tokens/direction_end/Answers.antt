use Rattle.std.proofs.Common.{◌≡◌, true, false, ◌&&◌, sym, ap, refl, ◌∙◌}
use Rattle.lef_tokens.specs.Looks.{look_of, is_tristate}
use Rattle.lef_reader.specs.Passing.{past_semicolon}
use Rattle.lef_reader.specs.MacroGrammar.{direction_end}
use Rattle.lef_reader.specs.Steps.{rest, more}
use Rattle.grammar.specs.Reading.{read}
use Rattle.lef_reader.proofs.OverTokens.{look_goes}
use Rattle.lef_reader.proofs.Skipped.{gives_behind, semicolon_read}
use Rattle.lef_reader.proofs.PinReads.{tristate_goes, tristate_read, no_tristate}
use Rattle.lef_reader.proofs.tokens.Tokens.direction_end.Goals as goal
use Rattle.lef_reader.proofs.tokens.Tokens.direction_end.Goals.{else-output-via-then-output+else-is_tristate, else-output-via-else-output}

pub shift-requires : goal.shift-requires
shift-requires c = look_goes c.args.source.now c.args.self.now.ahead c.look.result (sym c.look.ensures) (tristate_goes c.look.result (sym c.is_tristate.ensures ∙ c.if-is_tristate.true))

pub returns-then-is_tristate : goal.returns-then-is_tristate
returns-then-is_tristate c = λ m.
    let source = c.args.source.now in
    let tristate : is_tristate (look_of source c.args.self.now.ahead) ≡ true = ap is_tristate (sym c.look.ensures) ∙ sym c.is_tristate.ensures ∙ c.if-is_tristate.true in
    gives_behind c.semicolon.result (past_semicolon source (rest c.shift.new.self)) _ m _
    (ap (read (direction_end source c.args.output) m) c.shift.ensures
    ∙ tristate_read source m c.args.output c.args.self.now.ahead (rest c.shift.new.self) c.if-output.true tristate
    ∙ semicolon_read source m (rest c.shift.new.self))
    c.semicolon.ensures

pub returns : goal.returns
returns c = λ m.
    let source = c.args.source.now in
    let none : (c.args.output && is_tristate (look_of source c.args.self.now.ahead)) ≡ false
    = elim c.else-output.branch [
      | else-output-via-then-output+else-is_tristate w ↦
          let no : is_tristate (look_of source c.args.self.now.ahead) ≡ false = ap is_tristate (sym w.look.ensures) ∙ sym w.is_tristate.ensures ∙ w.if-is_tristate.false in
          let yes : c.args.output ≡ true = w.if-output.true in
          rw (yes, no) refl
      | else-output-via-else-output w ↦ let no : c.args.output ≡ false = w.if-output.false in rw no refl
    ]
    in
    gives_behind c.semicolon-2.result (past_semicolon source (rest c.args.self.now)) _ m _
    (no_tristate source m c.args.output c.args.self.now.ahead (more c.args.self.now) none ∙ semicolon_read source m (rest c.args.self.now))
    c.semicolon-2.ensures
