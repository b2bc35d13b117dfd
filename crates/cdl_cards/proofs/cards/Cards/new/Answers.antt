use Rattle.std.proofs.Common.{refl}
use Rattle.cdl_cards.specs.Cards.{cards_of}
use Rattle.cdl_cards.specs.Left.{cards_left}
use Rattle.cdl_cards.proofs.cards.Cards.new.Goals as goal

pub returns : goal.returns
unfolding cards_of cards_left
returns c = rw (c.of.ensures.0, c.of.ensures.1) refl
