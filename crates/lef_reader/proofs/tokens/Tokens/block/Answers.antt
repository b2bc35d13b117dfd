use Rattle.std.proofs.Common.{ap, refl, ◌∙◌}
use Rattle.grammar.specs.Reading.{read}
use Rattle.lef_reader.specs.declared.until.Opened.TheVariants as openings
use Rattle.lef_reader.specs.OutsideGrammar.{block}
use Rattle.lef_reader.specs.Steps.{rest}
use Rattle.lef_reader.proofs.OverTokens.{look_goes}
use Rattle.lef_reader.proofs.OutsideReads as reads
use Rattle.lef_reader.proofs.OutsideReads.{behind_halts, finds_along}
use Rattle.lef_reader.proofs.tokens.Tokens.block.Goals as goal

pub shift-requires : goal.shift-requires
shift-requires c = look_goes c.args.source.now c.args.self.now.ahead _ c.requires refl

pub returns : goal.returns
returns c = ap (read (block c.args.source.now) openings.End) c.shift.ensures ∙ reads.block_read c.args.source.now c.args.self.now.ahead (rest c.shift.new.self) c.requires
