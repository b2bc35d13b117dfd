use Rattle.std.proofs.Common.{sym, ◌∙◌, ap, ◌∷◌, Ok, refl}
use Rattle.cdl_cards.specs.Left.{card_left, word_of}
use Rattle.cdl_reader.specs.declared.kinds.CardKind.TheVariants as kinds
use Rattle.cdl_reader.proofs.Begins.{other_entered, readable, steps_along, unread}
use Rattle.cdl_reader.proofs.part.Part.enter.Goals as goal

pub returns-then-is_some-clause-entered : goal.returns-then-is_some-clause-entered
returns-then-is_some-clause-entered c = unread c.args.limits.now (word_of c.args.first ∷ card_left c.args.cards.now) c.args.self.now (sym c.is_some.ensures ∙ c.if-is_some.true)

pub returns-in-Transistor-clause-entered : goal.returns-in-Transistor-clause-entered
returns-in-Transistor-clause-entered c =
    steps_along c.add_transistor.result c.add_transistor.new.self _ _
    (readable c.args.limits.now kinds.Transistor (word_of c.args.first ∷ card_left c.args.cards.now) c.args.self.now (sym c.is_some.ensures ∙ c.if-is_some.false) c.in-Transistor.ensures)
    c.add_transistor.ensures.added

pub returns-in-Capacitor-clause-entered : goal.returns-in-Capacitor-clause-entered
returns-in-Capacitor-clause-entered c =
    readable c.args.limits.now kinds.Capacitor (word_of c.args.first ∷ card_left c.args.cards.now) c.args.self.now (sym c.is_some.ensures ∙ c.if-is_some.false) c.in-Capacitor.ensures

pub returns-in-Ok-clause-entered : goal.returns-in-Ok-clause-entered
returns-in-Ok-clause-entered c =
    readable c.args.limits.now kinds.PinInfo (word_of c.args.first ∷ card_left c.args.cards.now) c.args.self.now (sym c.is_some.ensures ∙ c.if-is_some.false) c.in-PinInfo.ensures
    ∙ ap (λ t. Ok (record c.args.self.now { told = t })) (sym c.in-Ok.ensures.told)

pub returns-in-Ok-refuse : goal.returns-in-Ok-refuse
returns-in-Ok-refuse c = record {
  entered =
      readable c.args.limits.now c.kind_of_word.result (word_of c.args.first ∷ card_left c.args.cards.now) c.args.self.now (sym c.is_some.ensures ∙ c.if-is_some.false) c.kind_of_word.ensures
      ∙ other_entered c.args.limits.now c.kind_of_word.result (word_of c.args.first ∷ card_left c.args.cards.now) c.args.self.now c.in_default.not-Transistor c.in_default.not-Capacitor c.in_default.not-PinInfo
      ∙ ap Ok (sym c.in-Ok-refuse.ensures);
  cards = refl;
}
