use Rattle.std.proofs.Common.{◌≡◌, length}
use Rattle.grammar.specs.Answers.{read_all}
use Rattle.cdl_cards.specs.Cards.{cards_of}
use Rattle.cdl_cards.specs.Left.{cards_left}
use Rattle.cdl_reader.specs.Grammar.{netlist, nothing}
use Rattle.cdl_reader.specs.Steps.{reads}
use Rattle.cdl_reader.specs.Told.{told}
use Rattle.cdl_reader.proofs.public_call.read_cards.Given as goal

abbrev pub invariant-cards : goal.invariant-cards
invariant-cards l = told l.text (reads l.limits l.reader (cards_left l.cards)) ≡ told l.text (read_all (netlist l.limits) nothing (cards_of l.text))

abbrev pub decreases-cards : goal.decreases-cards
decreases-cards l = length (cards_left l.cards)
