use Rattle.std.proofs.Common.{ap, refl, ◌∙◌}
use Rattle.lef_reader.specs.declared.until.Opened.TheVariants as openings
use Rattle.lef_reader.specs.Passing.{past_statement}
use Rattle.lef_reader.specs.Steps.{rest, more}
use Rattle.lef_reader.proofs.OverTokens.{look_goes}
use Rattle.lef_reader.proofs.Skipped.{behind_read}
use Rattle.lef_reader.proofs.OutsideReads as reads
use Rattle.lef_reader.proofs.OutsideReads.{behind_halts, finds_along}
use Rattle.lef_reader.proofs.tokens.Tokens.plain.Goals as goal

pub statement-requires : goal.statement-requires
statement-requires c = look_goes c.args.source.now c.args.self.now.ahead _ refl (reads.plain_over _ c.requires)

pub returns-in-Err : goal.returns-in-Err
returns-in-Err c =
    let source = c.args.source.now in
    behind_halts c.in-Err.halt (past_statement source (rest c.args.self.now)) _ openings.Nothing _ (reads.plain_read source c.args.self.now.ahead (more c.args.self.now) c.requires) c.in-Err.ensures

pub returns-in-Ok : goal.returns-in-Ok
returns-in-Ok c = reads.plain_read c.args.source.now c.args.self.now.ahead (more c.args.self.now) c.requires ∙ ap (behind_read openings.Nothing) c.in-Ok.ensures
