-- What is still to come in each state of a reader, as a rule.
use Rattle.std.specs.Prelude.{◌≡◌, ◌≤◌, ℕ, zero, suc, List, Result, Ok, Err, ◌∷◌}
use Rattle.text_scan.specs.declared.token.Token.{Token}
use Rattle.text_scan.specs.declared.limits.Limits.{Limits}
use Rattle.grammar.specs.Rule.{none, seq}
use Rattle.grammar.specs.Reading.{Stop, syntax, refusal}
use Rattle.grammar.specs.Answers.{read_all}
use Rattle.liberty_statements.specs.declared.halt.Refusal.{Refusal}
use Rattle.liberty_statements.specs.declared.halt.Halt.{Halt}
use Rattle.liberty_statements.specs.declared.halt.Halt.TheVariants as halts
use Rattle.liberty_statements.specs.declared.machine.Phase.{Phase}
use Rattle.liberty_statements.specs.declared.machine.Phase.TheVariants as phases
use Rattle.liberty_statements.specs.declared.machine.Machine.{Machine}
use Rattle.liberty_statements.specs.declared.statements.Statements.{Statements}
use Rattle.liberty_tokens.specs.Looks.{text, is_close_brace}
use Rattle.liberty_tokens.specs.Words.{is_include}
use Rattle.liberty_statements.specs.Actions.{close}
use Rattle.liberty_statements.specs.Grammar.{LibertyRule, act, arg, mores, args, value, group_or_none, call_end, tail, body, braces, finish, ending, last_brace, library_braces, title_end, title_name, title, file}

-- after the statements of the innermost of so many open groups, in which so many may still be nested
abbrev pub after_body : List ℕ → Limits → ℕ → ℕ → LibertyRule
after_body source limits zero room = none
after_body source limits (suc zero) room = last_brace source
after_body source limits (suc (suc depth)) room = seq (act source is_close_brace (close source) none) (seq (body source limits (braces source limits (suc room))) (after_body source limits (suc depth) (suc room)))

-- the further statements of that group, and what is after them
unfoldable pub rest : List ℕ → Limits → ℕ → ℕ → LibertyRule
rest source limits depth room = seq (body source limits (braces source limits room)) (after_body source limits depth room)

abbrev pub to_come : List ℕ → Limits → Phase → ℕ → ℕ → Token → LibertyRule
to_come source limits phases.Title depth room w = file source limits room
to_come source limits phases.TitleWord depth room w = title source limits room
to_come source limits phases.TitleOpen depth room w = title_name source limits room
to_come source limits phases.TitleName depth room w = title_end source limits room
to_come source limits phases.TitleClosed depth room w = library_braces source limits room
to_come source limits phases.Statement depth room w = rest source limits depth room
to_come source limits phases.Word depth room w = seq (tail source limits (braces source limits room) w) (rest source limits depth room)
to_come source limits phases.Value depth room w = seq (value source limits) (rest source limits depth room)
to_come source limits phases.Open depth room w = seq (seq (args source) (call_end source (braces source limits room) w)) (rest source limits depth room)
to_come source limits phases.Arg depth room w = seq (seq (mores source) (call_end source (braces source limits room) w)) (rest source limits depth room)
to_come source limits phases.Comma depth room w = seq (seq (seq (arg source) (mores source)) (call_end source (braces source limits room) w)) (rest source limits depth room)
to_come source limits phases.Closed depth room w = seq (group_or_none (is_include (text source w)) (braces source limits room)) (rest source limits depth room)
to_come source limits phases.Library depth room w = ending source
to_come source limits phases.Semicolon depth room w = finish source
to_come source limits phases.File depth room w = none

abbrev pub Answer : Type 0
Answer = Result Statements (Stop Token Refusal)

-- what reading on gives
abbrev pub reads : List ℕ → Limits → Machine → List Token → Answer
reads source limits m ts = read_all (to_come source limits m.phase m.depth m.room m.statements.word) m.statements ts

abbrev pub stop : Halt → List Token → Answer
stop halts.Syntax ts = Err (syntax ts)
stop halts.NoMemory ts = Err (syntax ts)
stop (halts.Refused e) ts = Err (refusal e ts)

-- what reading gives where a token leads to this
abbrev pub outcome : List ℕ → Limits → Result Machine Halt → Token → List Token → Answer
outcome source limits (Ok m) t ts = reads source limits m ts
outcome source limits (Err e) t ts = stop e (t ∷ ts)

-- how many groups are open in each phase
abbrev pub IsPlaced : Phase → ℕ → Type 0
IsPlaced phases.Title depth = depth ≡ 0
IsPlaced phases.TitleWord depth = depth ≡ 0
IsPlaced phases.TitleOpen depth = depth ≡ 0
IsPlaced phases.TitleName depth = depth ≡ 0
IsPlaced phases.TitleClosed depth = depth ≡ 0
IsPlaced phases.Statement depth = 1 ≤ depth
IsPlaced phases.Word depth = 1 ≤ depth
IsPlaced phases.Value depth = 1 ≤ depth
IsPlaced phases.Open depth = 1 ≤ depth
IsPlaced phases.Arg depth = 1 ≤ depth
IsPlaced phases.Comma depth = 1 ≤ depth
IsPlaced phases.Closed depth = 1 ≤ depth
IsPlaced phases.Library depth = Unit {0}
IsPlaced phases.Semicolon depth = Unit {0}
IsPlaced phases.File depth = Unit {0}
