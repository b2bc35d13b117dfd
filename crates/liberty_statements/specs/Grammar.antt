-- The grammar of a Liberty library over its tokens, in which blank line ends do not stand.
use Rattle.std.specs.Prelude.{ℕ, zero, suc, Bool, true, false, ◌&&◌, List}
use Rattle.text_scan.specs.declared.token.Token.{Token}
use Rattle.text_scan.specs.declared.limits.Limits.{Limits}
use Rattle.grammar.specs.Rule.{Rule, none, one, before, seq, alt, many}
use Rattle.liberty_statements.specs.declared.halt.Refusal.{Refusal}
use Rattle.liberty_tokens.specs.declared.look.Look.{Look}
use Rattle.liberty_statements.specs.declared.statements.Statements.{Statements}
use Rattle.liberty_tokens.specs.Looks.{look_of, text, is_word, is_arg, is_value, is_open_paren, is_close_paren, is_open_brace, is_close_brace, is_semicolon, is_colon, is_comma, is_line, is_end}
use Rattle.liberty_tokens.specs.Words.{is_library, is_include}
use Rattle.liberty_statements.specs.Actions.{Outcome, keep, begin_statement, add_arg, add_value, settle, enter, open_library, name_library, close}

abbrev pub LibertyRule : Type 0
LibertyRule = Rule Token Statements Refusal

-- a token that looks so, its action, and then what follows
abbrev pub act : List ℕ → (Look → Bool) → (Token → Statements → Outcome) → LibertyRule → LibertyRule
act source p f follows = one (λ t. p (look_of source t)) f (λ t. follows)

abbrev pub take : List ℕ → (Look → Bool) → LibertyRule → LibertyRule
take source p follows = act source p keep follows

unfoldable pub arg : List ℕ → LibertyRule
arg source = act source is_arg add_arg none

-- a further argument, with a comma before it or none
unfoldable pub more : List ℕ → LibertyRule
more source = alt (arg source) (take source is_comma (arg source))

unfoldable pub mores : List ℕ → LibertyRule
mores source = many (more source)

unfoldable pub args : List ℕ → LibertyRule
args source = alt (seq (arg source) (mores source)) none

unfoldable pub values : List ℕ → Limits → LibertyRule
values source limits = many (act source is_value (add_value source limits) none)

-- ; or the line's end, or before }
unfoldable pub value_end : List ℕ → LibertyRule
value_end source = alt (act source is_semicolon (settle source) none) (alt (act source is_line (settle source) none) (before (λ t. is_close_brace (look_of source t))))

unfoldable pub value : List ℕ → Limits → LibertyRule
value source limits = seq (values source limits) (value_end source)

-- the group that must follow, or may
abbrev pub group_or_none : Bool → LibertyRule → LibertyRule
group_or_none true group = group
group_or_none false group = alt group none

unfoldable pub call_end : List ℕ → LibertyRule → Token → LibertyRule
call_end source group w = take source is_close_paren (group_or_none (is_include (text source w)) group)

-- what follows the word of a statement: a simple attribute's value, or arguments and maybe the group in braces
unfoldable pub tail : List ℕ → Limits → LibertyRule → Token → LibertyRule
tail source limits group w = alt (take source is_colon (value source limits)) (take source is_open_paren (seq (args source) (call_end source group w)))

unfoldable pub statement : List ℕ → Limits → LibertyRule → LibertyRule
statement source limits group = alt (take source is_semicolon none) (one (λ t. is_word (look_of source t)) begin_statement (λ w. tail source limits group w))

unfoldable pub body : List ℕ → Limits → LibertyRule → LibertyRule
body source limits group = many (statement source limits group)

-- the statements of a group in braces, in which groups may be nested so deep
unfoldable pub braces : List ℕ → Limits → ℕ → LibertyRule
braces source limits zero = act source is_open_brace (enter source limits zero) none
braces source limits (suc n) = act source is_open_brace (enter source limits (suc n)) (seq (body source limits (braces source limits n)) (act source is_close_brace (close source) none))

unfoldable pub finish : List ℕ → LibertyRule
finish source = take source is_end none

-- one ; or none, and the end
unfoldable pub ending : List ℕ → LibertyRule
ending source = alt (take source is_semicolon (finish source)) (finish source)

unfoldable pub last_brace : List ℕ → LibertyRule
last_brace source = act source is_close_brace (settle source) (ending source)

unfoldable pub library_braces : List ℕ → Limits → ℕ → LibertyRule
library_braces source limits zero = act source is_open_brace (open_library zero) none
library_braces source limits (suc n) = act source is_open_brace (open_library (suc n)) (seq (body source limits (braces source limits n)) (last_brace source))

unfoldable pub title_end : List ℕ → Limits → ℕ → LibertyRule
title_end source limits n = take source is_close_paren (library_braces source limits n)

unfoldable pub title_name : List ℕ → Limits → ℕ → LibertyRule
title_name source limits n = act source is_arg (name_library source limits) (title_end source limits n)

unfoldable pub title : List ℕ → Limits → ℕ → LibertyRule
title source limits n = take source is_open_paren (title_name source limits n)

-- a file is one group named library with one name
unfoldable pub file : List ℕ → Limits → ℕ → LibertyRule
file source limits n = one (λ t. is_word (look_of source t) && is_library (text source t)) keep (λ t. title source limits n)
