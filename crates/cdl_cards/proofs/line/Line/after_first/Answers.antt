use Rattle.std.proofs.Common.{ap, sym, ◌∙◌, drop}
use Rattle.cdl_cards.specs.Words.{words}
use Rattle.cdl_cards.proofs.LineWords.{behind_first}
use Rattle.cdl_cards.proofs.line.Line.after_first.Goals as goal

pub returns : goal.returns
returns c = ap (words c.args.self.number c.args.self.size 0) (c.behind_first.ensures ∙ ap (drop 1) c.from_word.ensures ∙ sym (behind_first c.args.self.rest.now))
