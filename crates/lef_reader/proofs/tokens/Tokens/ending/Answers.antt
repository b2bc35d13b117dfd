use Rattle.std.proofs.Common.{sym, ap, refl, ◌∙◌, ◌∷◌}
use Rattle.grammar.specs.Reading.{read}
use Rattle.lef_reader.specs.declared.until.Opened.TheVariants as openings
use Rattle.lef_tokens.specs.Looks.{is_library}
use Rattle.lef_reader.specs.Passing.{past_statement}
use Rattle.lef_reader.specs.OutsideGrammar.{ending}
use Rattle.lef_reader.specs.Steps.{rest, more}
use Rattle.lef_reader.proofs.OverTokens.{look_goes}
use Rattle.lef_reader.proofs.Skipped.{behind_read}
use Rattle.lef_reader.proofs.OutsideReads as reads
use Rattle.lef_reader.proofs.OutsideReads.{behind_halts, finds_along}
use Rattle.lef_reader.proofs.tokens.Tokens.ending.Goals as goal

pub shift-requires : goal.shift-requires
shift-requires c = look_goes c.args.source.now c.args.self.now.ahead _ c.requires refl

pub shift-requires-then-is_library : goal.shift-requires-then-is_library
shift-requires-then-is_library c = look_goes c.args.source.now c.shift.new.self.ahead c.look.result (sym c.look.ensures) (reads.library_goes c.look.result (sym c.is_library.ensures ∙ c.if-is_library.true))

pub returns-then-is_library : goal.returns-then-is_library
returns-then-is_library c =
    let source = c.args.source.now in
    ap (read (ending source) openings.End) (c.shift.ensures ∙ ap (λ z. c.args.self.now.ahead ∷ z) c.shift-then-is_library.ensures)
    ∙ reads.library_read source c.args.self.now.ahead c.shift.new.self.ahead (rest c.shift-then-is_library.new.self) c.requires (ap is_library (sym c.look.ensures) ∙ sym c.is_library.ensures ∙ c.if-is_library.true)

pub returns-then-not-is_passed : goal.returns-then-not-is_passed
returns-then-not-is_passed c =
    let source = c.args.source.now in
    ap (read (ending source) openings.End) c.shift.ensures
    ∙ reads.ending_stops source c.args.self.now.ahead c.shift.new.self.ahead (more c.shift.new.self) c.requires (ap is_library (sym c.look.ensures) ∙ sym c.is_library.ensures ∙ c.if-is_library.false) (sym c.is_passed.ensures ∙ c.if-not-is_passed.true)

pub returns-in-Err : goal.returns-in-Err
returns-in-Err c =
    let source = c.args.source.now in
    behind_halts c.in-Err.halt (past_statement source (rest c.shift.new.self)) _ openings.Nothing _
    (ap (read (ending source) openings.End) c.shift.ensures
    ∙ reads.ending_other source c.args.self.now.ahead c.shift.new.self.ahead (more c.shift.new.self) c.requires (ap is_library (sym c.look.ensures) ∙ sym c.is_library.ensures ∙ c.if-is_library.false) (sym c.is_passed.ensures ∙ c.if-not-is_passed.false))
    c.in-Err.ensures

pub returns-in-Ok : goal.returns-in-Ok
returns-in-Ok c =
    let source = c.args.source.now in
    ap (read (ending source) openings.End) c.shift.ensures
    ∙ reads.ending_other source c.args.self.now.ahead c.shift.new.self.ahead (more c.shift.new.self) c.requires (ap is_library (sym c.look.ensures) ∙ sym c.is_library.ensures ∙ c.if-is_library.false) (sym c.is_passed.ensures ∙ c.if-not-is_passed.false)
    ∙ ap (behind_read openings.Nothing) c.in-Ok.ensures
