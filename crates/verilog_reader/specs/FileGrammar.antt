-- The grammar outside parts, and of the rest of a part that is refused.
use Rattle.std.specs.Prelude.{ℕ, Bool, true, List, Ok}
use Rattle.text_scan.specs.declared.limits.Limits.{Limits}
use Rattle.grammar.specs.Rule.{Rule, none, one, before, seq, alt, many}
use Rattle.verilog_directives.specs.declared.left.Left.{Left}
use Rattle.verilog_looks.specs.declared.halt.Refusal.{Refusal}
use Rattle.verilog_looks.specs.declared.look.Look.{Look}
use Rattle.verilog_looks.specs.Looks as looks
use Rattle.verilog_looks.specs.Looks.{look_of}
use Rattle.verilog_modules.specs.ModuleGrammar.{is_beside, is_off}
use Rattle.verilog_reader.specs.declared.file_text.FileText.{FileText}
use Rattle.verilog_reader.specs.declared.file_phase.FileAction.{FileAction}
use Rattle.verilog_reader.specs.declared.file_phase.FileAction.TheVariants.{Keep, BeginLine, CountModule, CountPrimitive, NameModule, NamePrimitive, End}
use Rattle.verilog_reader.specs.FileActions.{perform_file}

abbrev pub FileRule : Type 0
FileRule = Rule Left FileText Refusal

-- an item that looks so, what it adds, and then what follows
abbrev pub act : List ℕ → Limits → (Look → Bool) → FileAction → FileRule → FileRule
act source limits p a follows = one (λ t. p (look_of source t)) (λ t f. perform_file source limits a t f) (λ t. follows)

module _ (source : List ℕ) (limits : Limits) where
  -- the rest of a line
  unfoldable pub line_rest : ℕ → FileRule
  line_rest line = seq (many (one (is_beside source line) (λ t f. perform_file source limits Keep t f) (λ t. none))) (before (is_off source line))

  -- a directive or macro that isn't obeyed, and what stands on its line
  unfoldable pub passed_line : FileRule
  passed_line = one (λ t. looks.is_macro (look_of source t)) (λ t f. perform_file source limits BeginLine t f) (λ m. line_rest m.token.span.line)

  unfoldable pub module_name : FileRule
  module_name = act source limits looks.is_name NameModule none

  unfoldable pub primitive_name : FileRule
  primitive_name = act source limits looks.is_name NamePrimitive none

  -- what stands outside parts: a line that is passed over, the title of a part, or the end of the text
  unfoldable pub outside : FileRule
  outside = alt passed_line (alt (act source limits looks.is_module CountModule module_name) (alt (act source limits looks.is_primitive CountPrimitive primitive_name) (act source limits looks.is_end End none)))

  unfoldable pub unread : FileRule
  unread = many (act source limits looks.is_unread Keep none)

  -- the rest of a part that is refused, up to the first end of a part
  unfoldable pub part_rest : FileRule
  part_rest = seq unread (act source limits looks.is_part_end Keep none)

-- any items
abbrev pub anything : {S : Type 0} → Rule Left S Refusal
anything = many (one (λ t. true) (λ t s. Ok s) (λ t. none))
