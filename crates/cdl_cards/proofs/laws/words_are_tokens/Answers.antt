use Rattle.cdl_cards.proofs.Tokens.{text_words}
use Rattle.cdl_cards.proofs.laws.words_are_tokens.Goals as goal

pub returns : goal.returns
returns c = text_words c.args.text.now
