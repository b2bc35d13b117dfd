use Rattle.std.proofs.Common.{◌∙◌}
use Rattle.cdl_cards.specs.Left.{card_left, word_of}
use Rattle.cdl_reader.proofs.NextNames.{fault_along}
use Rattle.cdl_reader.proofs.Terminals.{along, first_along, first_fault_so, none_left, whole}
use Rattle.cdl_reader.proofs.transistors.read_terminals.Goals as goal

pub returns-in-Err-clause-names : goal.returns-in-Err-clause-names
returns-in-Err-clause-names c = first_fault_so c.args.limits.now (word_of c.args.first) c.in-Err.fault (card_left c.args.cards.now) c.in-Err.ensures

pub returns-in-Err-next_name-clause-names : goal.returns-in-Err-next_name-clause-names
returns-in-Err-next_name-clause-names c =
    let e0 = first_along c.args.limits.now (word_of c.args.first) (card_left c.args.cards.now) c.in-Ok.ensures.1 in
    fault_along c.in-Err-next_name.fault _ _ (e0) (c.in-Err-next_name.ensures.name 4)

pub returns-in-Err-next_name-2-clause-names : goal.returns-in-Err-next_name-2-clause-names
returns-in-Err-next_name-2-clause-names c =
    let e0 = first_along c.args.limits.now (word_of c.args.first) (card_left c.args.cards.now) c.in-Ok.ensures.1 in
    let e1 = along c.args.limits.now (word_of c.args.first) 4 c.in-Ok-next_name.word (card_left c.args.cards.now) (card_left c.next_name.new.cards) c.in-Ok-next_name.ensures.name in
    fault_along c.in-Err-next_name-2.fault _ _ (e0 ∙ e1) (c.in-Err-next_name-2.ensures.name 3)

pub returns-in-Err-next_name-3-clause-names : goal.returns-in-Err-next_name-3-clause-names
returns-in-Err-next_name-3-clause-names c =
    let e0 = first_along c.args.limits.now (word_of c.args.first) (card_left c.args.cards.now) c.in-Ok.ensures.1 in
    let e1 = along c.args.limits.now (word_of c.args.first) 4 c.in-Ok-next_name.word (card_left c.args.cards.now) (card_left c.next_name.new.cards) c.in-Ok-next_name.ensures.name in
    let e2 = along c.args.limits.now (word_of c.args.first) 3 c.in-Ok-next_name-2.word (card_left c.next_name.new.cards) (card_left c.next_name-2.new.cards) c.in-Ok-next_name-2.ensures.name in
    fault_along c.in-Err-next_name-3.fault _ _ (e0 ∙ e1 ∙ e2) (c.in-Err-next_name-3.ensures.name 2)

pub returns-in-Err-next_name-4-clause-names : goal.returns-in-Err-next_name-4-clause-names
returns-in-Err-next_name-4-clause-names c =
    let e0 = first_along c.args.limits.now (word_of c.args.first) (card_left c.args.cards.now) c.in-Ok.ensures.1 in
    let e1 = along c.args.limits.now (word_of c.args.first) 4 c.in-Ok-next_name.word (card_left c.args.cards.now) (card_left c.next_name.new.cards) c.in-Ok-next_name.ensures.name in
    let e2 = along c.args.limits.now (word_of c.args.first) 3 c.in-Ok-next_name-2.word (card_left c.next_name.new.cards) (card_left c.next_name-2.new.cards) c.in-Ok-next_name-2.ensures.name in
    let e3 = along c.args.limits.now (word_of c.args.first) 2 c.in-Ok-next_name-3.word (card_left c.next_name-2.new.cards) (card_left c.next_name-3.new.cards) c.in-Ok-next_name-3.ensures.name in
    fault_along c.in-Err-next_name-4.fault _ _ (e0 ∙ e1 ∙ e2 ∙ e3) (c.in-Err-next_name-4.ensures.name 1)

pub returns-in-Err-next_name-5-clause-names : goal.returns-in-Err-next_name-5-clause-names
returns-in-Err-next_name-5-clause-names c =
    let e0 = first_along c.args.limits.now (word_of c.args.first) (card_left c.args.cards.now) c.in-Ok.ensures.1 in
    let e1 = along c.args.limits.now (word_of c.args.first) 4 c.in-Ok-next_name.word (card_left c.args.cards.now) (card_left c.next_name.new.cards) c.in-Ok-next_name.ensures.name in
    let e2 = along c.args.limits.now (word_of c.args.first) 3 c.in-Ok-next_name-2.word (card_left c.next_name.new.cards) (card_left c.next_name-2.new.cards) c.in-Ok-next_name-2.ensures.name in
    let e3 = along c.args.limits.now (word_of c.args.first) 2 c.in-Ok-next_name-3.word (card_left c.next_name-2.new.cards) (card_left c.next_name-3.new.cards) c.in-Ok-next_name-3.ensures.name in
    let e4 = along c.args.limits.now (word_of c.args.first) 1 c.in-Ok-next_name-4.word (card_left c.next_name-3.new.cards) (card_left c.next_name-4.new.cards) c.in-Ok-next_name-4.ensures.name in
    fault_along c.in-Err-next_name-5.fault _ _ (e0 ∙ e1 ∙ e2 ∙ e3 ∙ e4) (c.in-Err-next_name-5.ensures.name 0)

pub returns-clause-names : goal.returns-clause-names
returns-clause-names c =
    let e0 = first_along c.args.limits.now (word_of c.args.first) (card_left c.args.cards.now) c.in-Ok.ensures.1 in
    let e1 = along c.args.limits.now (word_of c.args.first) 4 c.in-Ok-next_name.word (card_left c.args.cards.now) (card_left c.next_name.new.cards) c.in-Ok-next_name.ensures.name in
    let e2 = along c.args.limits.now (word_of c.args.first) 3 c.in-Ok-next_name-2.word (card_left c.next_name.new.cards) (card_left c.next_name-2.new.cards) c.in-Ok-next_name-2.ensures.name in
    let e3 = along c.args.limits.now (word_of c.args.first) 2 c.in-Ok-next_name-3.word (card_left c.next_name-2.new.cards) (card_left c.next_name-3.new.cards) c.in-Ok-next_name-3.ensures.name in
    let e4 = along c.args.limits.now (word_of c.args.first) 1 c.in-Ok-next_name-4.word (card_left c.next_name-3.new.cards) (card_left c.next_name-4.new.cards) c.in-Ok-next_name-4.ensures.name in
    let e5 = along c.args.limits.now (word_of c.args.first) 0 c.in-Ok-next_name-5.word (card_left c.next_name-4.new.cards) (card_left c.next_name-5.new.cards) c.in-Ok-next_name-5.ensures.name in (
      e0 ∙ e1 ∙ e2 ∙ e3 ∙ e4 ∙ e5 ∙ none_left c.args.limits.now (word_of c.args.first) (card_left c.next_name-5.new.cards),
      whole c.args.limits.now (word_of c.in-Ok.word) (word_of c.args.first) c.in-Ok-next_name.word c.in-Ok-next_name-2.word c.in-Ok-next_name-3.word c.in-Ok-next_name-4.word c.in-Ok-next_name-5.word _ _ _ _ _ _
          c.in-Ok.ensures.0 c.in-Ok-next_name.ensures.name c.in-Ok-next_name-2.ensures.name c.in-Ok-next_name-3.ensures.name c.in-Ok-next_name-4.ensures.name c.in-Ok-next_name-5.ensures.name,
    )
