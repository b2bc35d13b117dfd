use Rattle.std.proofs.Common.{sym, ◌∙◌, ap, subst, map, Ok, Err}
use Rattle.cdl_cards.specs.Left.{card_left}
use Rattle.cdl_reader.specs.Actions.{adds, begun_part, word_bytes}
use Rattle.cdl_reader.specs.Parts.{no_part}
use Rattle.file_rules.specs.Told.{Agrees}
use Rattle.cdl_reader.specs.Words.{first_fault, operands}
use Rattle.cdl_reader.specs.declared.part.Part.{Part}
use Rattle.cdl_reader.proofs.Begins.{begun_whole, steps_agree}
use Rattle.cdl_reader.proofs.part.Part.begin.Goals as goal

pub returns-in-Ok-clause-part : goal.returns-in-Ok-clause-part
returns-in-Ok-clause-part c =
    begun_whole c.args.limits.now c.args.name c.in-Ok.pins (operands (card_left c.args.cards.now)) c.in-Ok.ensures.pins.0 c.in-Ok.ensures.pins.1
    ∙ ap (λ (p : Part). Ok (record p { pins = c.in-Ok.pins })) (sym c.named-part.ensures)

pub returns-in-Err-fail-clause-part : goal.returns-in-Err-fail-clause-part
unfolding begun_part
returns-in-Err-fail-clause-part c =
    let ws = operands (card_left c.args.cards.now) in
    let o = first_fault c.args.limits.now ws in
    let all : Part = record no_part { name = c.args.name; pins = map word_bytes ws } in
    let P : Part → Type 0 = λ p. Agrees (Err c.in-Err-fail.refusal) (adds c.args.limits.now o all p) in
    subst P c.named-part.ensures (steps_agree (Unit {0}) c.in-Err-fail.refusal c.fail.new.self (adds c.args.limits.now o all c.named-part.result) (c.in-Err-fail.ensures o all c.in-Err.ensures.pins))

pub returns-in-Ok-fail-clause-part : goal.returns-in-Ok-fail-clause-part
unfolding begun_part
returns-in-Ok-fail-clause-part c =
    let ws = operands (card_left c.args.cards.now) in
    let o = first_fault c.args.limits.now ws in
    let all : Part = record no_part { name = c.args.name; pins = map word_bytes ws } in
    ap (adds c.args.limits.now o all) (sym c.named-part.ensures) ∙ c.in-Ok-fail.ensures o all c.in-Err.ensures.pins
