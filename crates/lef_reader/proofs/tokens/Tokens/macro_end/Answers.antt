use Rattle.std.proofs.Common.{refl, ap}
use Rattle.grammar.specs.Reading.{read}
use Rattle.lef_reader.specs.MacroGrammar.{macro_end}
use Rattle.lef_reader.specs.Steps.{rest}
use Rattle.lef_reader.proofs.OverTokens.{look_goes}
use Rattle.lef_reader.proofs.Skipped.{gives_along}
use Rattle.lef_reader.proofs.MacroReads.{macro_ends}
use Rattle.lef_reader.proofs.tokens.Tokens.macro_end.Goals as goal

pub shift-requires : goal.shift-requires
shift-requires c = look_goes c.args.source.now c.args.self.now.ahead _ c.requires refl

pub returns : goal.returns
returns c = λ m.
    let source = c.args.source.now in
    gives_along c.end_name.result _ _ m _ (ap (read (macro_end source c.args.name) m) c.shift.ensures)
    (macro_ends source c.end_name.result c.args.name m c.args.self.now.ahead (rest c.shift.new.self) _ c.requires c.end_name.ensures)
