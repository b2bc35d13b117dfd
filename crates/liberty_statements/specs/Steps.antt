-- What a token changes in the state of a reader.
use Rattle.std.specs.Prelude.{ℕ, ◌+◌, ◌-◌, Bool, true, false, ◌&&◌, nat_le, if◌then◌else◌, List, Result, Ok, Err}
use Rattle.text_scan.specs.declared.token.Token.{Token}
use Rattle.text_scan.specs.declared.limits.Limits.{Limits}
use Rattle.liberty_statements.specs.declared.halt.Halt.{Halt}
use Rattle.liberty_statements.specs.declared.halt.Halt.TheVariants as halts
use Rattle.liberty_tokens.specs.declared.look.Look.{Look}
use Rattle.liberty_tokens.specs.declared.look.Look.TheVariants as looks
use Rattle.liberty_statements.specs.declared.machine.Phase.{Phase}
use Rattle.liberty_statements.specs.declared.machine.Phase.TheVariants as phases
use Rattle.liberty_statements.specs.declared.machine.Machine.{Machine}
use Rattle.liberty_tokens.specs.Looks.{look_of, text, is_word, shows}
use Rattle.liberty_tokens.specs.Words.{is_library, is_include}
use Rattle.liberty_statements.specs.Actions.{Outcome, begin_statement, add_arg, add_value, settle, settled, left_group, enter, open_library, name_library}

abbrev pub Moved : Type 0
Moved = Result Machine Halt

abbrev pub stopped : Moved
stopped = Err halts.Syntax

abbrev pub to_phase : Phase → Machine → Machine
to_phase p m = record m { phase = p }

abbrev pub moved : Phase → Machine → Outcome → Moved
moved p m (Ok s) = Ok (record m { phase = p; statements = s })
moved p m (Err e) = Err (halts.Refused e)

abbrev pub deeper : Machine → Machine
deeper m = record { phase = phases.Statement; depth = m.depth + 1; room = m.room - 1; statements = m.statements }

-- one group deeper
abbrev pub deepened : Machine → Outcome → Moved
deepened m (Ok s) = Ok (record { phase = phases.Statement; depth = m.depth + 1; room = m.room - 1; statements = s })
deepened m (Err e) = Err (halts.Refused e)

abbrev pub in_title : Bool → Machine → Moved
in_title true m = Ok (to_phase phases.TitleWord m)
in_title false m = stopped

abbrev pub in_title_word : Look → Machine → Moved
in_title_word looks.OpenParen m = Ok (to_phase phases.TitleOpen m)
in_title_word _ m = stopped

abbrev pub in_title_open : List ℕ → Limits → Token → Look → Machine → Moved
in_title_open source limits t looks.Word m = moved phases.TitleName m (name_library source limits t m.statements)
in_title_open source limits t looks.Str m = moved phases.TitleName m (name_library source limits t m.statements)
in_title_open source limits t _ m = stopped

abbrev pub in_title_name : Look → Machine → Moved
in_title_name looks.CloseParen m = Ok (to_phase phases.TitleClosed m)
in_title_name _ m = stopped

abbrev pub in_title_closed : Token → Look → Machine → Moved
in_title_closed t looks.OpenBrace m = deepened m (open_library m.room t m.statements)
in_title_closed t _ m = stopped

-- a brace ends the innermost group
unfoldable pub in_closing : List ℕ → Machine → Moved
in_closing source m = if nat_le m.depth 1
    then Ok (record m { phase = phases.Library; statements = settled source m.statements })
    else Ok (record { phase = phases.Statement; depth = m.depth - 1; room = m.room + 1; statements = left_group (settled source m.statements) })

abbrev pub in_statement : List ℕ → Token → Look → Machine → Moved
in_statement source t looks.Semicolon m = Ok (to_phase phases.Statement m)
in_statement source t looks.Word m = moved phases.Word m (begin_statement t m.statements)
in_statement source t looks.CloseBrace m = in_closing source m
in_statement source t _ m = stopped

abbrev pub in_word : Look → Machine → Moved
in_word looks.Colon m = Ok (to_phase phases.Value m)
in_word looks.OpenParen m = Ok (to_phase phases.Open m)
in_word _ m = stopped

abbrev pub in_value : List ℕ → Limits → Token → Look → Machine → Moved
in_value source limits t looks.Semicolon m = moved phases.Statement m (settle source t m.statements)
in_value source limits t looks.LineEnd m = moved phases.Statement m (settle source t m.statements)
in_value source limits t looks.CloseBrace m = in_closing source m
in_value source limits t looks.OpenBrace m = stopped
in_value source limits t looks.Colon m = stopped
in_value source limits t looks.End m = stopped
in_value source limits t looks.Unfinished m = stopped
in_value source limits t looks.Unnamed m = stopped
in_value source limits t _ m = moved phases.Value m (add_value source limits t m.statements)

abbrev pub in_open : Token → Look → Machine → Moved
in_open t looks.Word m = moved phases.Arg m (add_arg t m.statements)
in_open t looks.Str m = moved phases.Arg m (add_arg t m.statements)
in_open t looks.CloseParen m = Ok (to_phase phases.Closed m)
in_open t _ m = stopped

abbrev pub in_arg : Token → Look → Machine → Moved
in_arg t looks.Word m = moved phases.Arg m (add_arg t m.statements)
in_arg t looks.Str m = moved phases.Arg m (add_arg t m.statements)
in_arg t looks.Comma m = Ok (to_phase phases.Comma m)
in_arg t looks.CloseParen m = Ok (to_phase phases.Closed m)
in_arg t _ m = stopped

abbrev pub in_comma : Token → Look → Machine → Moved
in_comma t looks.Word m = moved phases.Arg m (add_arg t m.statements)
in_comma t looks.Str m = moved phases.Arg m (add_arg t m.statements)
in_comma t _ m = stopped

-- a word after which a group must come
abbrev pub unless_included : Bool → Moved → Moved
unless_included true next = stopped
unless_included false next = next

abbrev pub in_closed : List ℕ → Limits → Token → Look → Machine → Moved
in_closed source limits t looks.OpenBrace m = deepened m (enter source limits m.room t m.statements)
in_closed source limits t l m = unless_included (is_include (text source m.statements.word)) (in_statement source t l m)

abbrev pub in_library : Look → Machine → Moved
in_library looks.Semicolon m = Ok (to_phase phases.Semicolon m)
in_library looks.End m = Ok (to_phase phases.File m)
in_library _ m = stopped

abbrev pub in_semicolon : Look → Machine → Moved
in_semicolon looks.End m = Ok (to_phase phases.File m)
in_semicolon _ m = stopped

abbrev pub in_titles : List ℕ → Limits → Token → Look → Phase → Machine → Moved
in_titles source limits t l phases.Title m = in_title (is_word l && is_library (text source t)) m
in_titles source limits t l phases.TitleWord m = in_title_word l m
in_titles source limits t l phases.TitleOpen m = in_title_open source limits t l m
in_titles source limits t l phases.TitleName m = in_title_name l m
in_titles source limits t l phases.TitleClosed m = in_title_closed t l m
in_titles source limits t l _ m = stopped

abbrev pub in_args : List ℕ → Limits → Token → Look → Phase → Machine → Moved
in_args source limits t l phases.Word m = in_word l m
in_args source limits t l phases.Open m = in_open t l m
in_args source limits t l phases.Arg m = in_arg t l m
in_args source limits t l phases.Comma m = in_comma t l m
in_args source limits t l phases.Closed m = in_closed source limits t l m
in_args source limits t l p m = in_titles source limits t l p m

unfoldable pub step : List ℕ → Limits → Token → Look → Phase → Machine → Moved
step source limits t l phases.Statement m = in_statement source t l m
step source limits t l phases.Value m = in_value source limits t l m
step source limits t l phases.Library m = in_library l m
step source limits t l phases.Semicolon m = in_semicolon l m
step source limits t l p m = in_args source limits t l p m

abbrev pub is_in_value : Phase → Bool
is_in_value phases.Value = true
is_in_value _ = false

abbrev pub step_if : Bool → Moved → Machine → Moved
step_if true next m = next
step_if false next m = Ok m

-- a token, which may be a line's end that is a blank
unfoldable pub taken : List ℕ → Limits → Token → Machine → Moved
taken source limits t m = step_if (shows (is_in_value m.phase) (look_of source t)) (step source limits t (look_of source t) m.phase m) m
