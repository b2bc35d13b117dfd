use Rattle.std.proofs.Common.{Ok, ap, ◌∙◌}
use Rattle.lef_reader.specs.Steps.{rest, more}
use Rattle.lef_reader.proofs.TurnsLead.{halted, ended, passed_on, section_on, section_told, macro_on, macro_told}
use Rattle.lef_reader.proofs.lef_text.LefText.turn.Goals as goal

pub returns-in-Err : goal.returns-in-Err
returns-in-Err c = halted c.args.source.now c.args.limits.now c.in-Err.halt c.told_halt.result c.args.self.now c.outside.new.self.ahead (rest c.args.tokens.now) (more c.outside.new.self) c.told_halt.ensures c.in-Err.ensures

pub returns-in-Ok-End : goal.returns-in-Ok-End
returns-in-Ok-End c = ended c.args.source.now c.args.limits.now c.args.self.now (rest c.args.tokens.now) (rest c.outside.new.self) (c.in-Ok-End.ensures ∙ ap (λ z. Ok (z, rest c.outside.new.self)) c.in-Ok-End.field-0-is)

pub returns-in-Ok-Nothing : goal.returns-in-Ok-Nothing
returns-in-Ok-Nothing c = passed_on c.args.source.now c.args.limits.now c.args.self.now (rest c.args.tokens.now) (rest c.outside.new.self) (c.in-Ok-Nothing.ensures ∙ ap (λ z. Ok (z, rest c.outside.new.self)) c.in-Ok-Nothing.field-0-is)

pub returns-in-Err-go_behind : goal.returns-in-Err-go_behind
returns-in-Err-go_behind c =
    section_told c.args.source.now c.args.limits.now c.in-Err-go_behind.refusal c.args.self.now c.in-Ok-Section.closing (rest c.args.tokens.now) (rest c.outside.new.self) (rest c.go_behind.new.self) (c.in-Ok-Section.ensures ∙ ap (λ z. Ok (z, rest c.outside.new.self)) c.in-Ok-Section.field-0-is) (c.in-Err-go_behind.ensures c.args.self.now)

pub returns-in-Ok : goal.returns-in-Ok
returns-in-Ok c =
    section_on c.args.source.now c.args.limits.now c.args.self.now c.in-Ok-Section.closing (rest c.args.tokens.now) (rest c.outside.new.self) (rest c.go_behind.new.self) (c.in-Ok-Section.ensures ∙ ap (λ z. Ok (z, rest c.outside.new.self)) c.in-Ok-Section.field-0-is) (c.in-Ok.ensures c.args.self.now)

pub returns-in-Err-read_macro : goal.returns-in-Err-read_macro
returns-in-Err-read_macro c =
    macro_told c.args.source.now c.args.limits.now c.in-Err-read_macro.refusal c.args.self.now c.read_macro.new.self c.in-Ok-Macro.name (rest c.args.tokens.now) (rest c.outside.new.self) (rest c.read_macro.new.tokens) (c.in-Ok-Macro.ensures ∙ ap (λ z. Ok (z, rest c.outside.new.self)) c.in-Ok-Macro.field-0-is) c.in-Err-read_macro.ensures

pub returns-in-Ok-read_macro : goal.returns-in-Ok-read_macro
returns-in-Ok-read_macro c =
    macro_on c.args.source.now c.args.limits.now c.args.self.now c.read_macro.new.self c.in-Ok-Macro.name (rest c.args.tokens.now) (rest c.outside.new.self) (rest c.read_macro.new.tokens) (c.in-Ok-Macro.ensures ∙ ap (λ z. Ok (z, rest c.outside.new.self)) c.in-Ok-Macro.field-0-is) c.in-Ok-read_macro.ensures
