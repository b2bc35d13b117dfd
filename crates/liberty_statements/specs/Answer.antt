-- What a file's tokens are read as, and how a refusal is told.
use Rattle.std.specs.Prelude.{◌≡◌, ℕ, false, List, [], ◌∷◌, Result, Ok, Err}
use Rattle.text_scan.specs.declared.token.Token.{Token}
use Rattle.text_scan.specs.declared.token.Style.TheVariants as styles
use Rattle.text_scan.specs.declared.limits.Limits.{Limits}
use Rattle.text_scan.specs.declared.refusal.FileRefusal.{FileRefusal}
use Rattle.text_scan.specs.declared.refusal.FileRefusal.TheVariants as refusals
use Rattle.text_scan.specs.Tokens.{tokens_of}
use Rattle.grammar.specs.Reading.{syntax, refusal}
use Rattle.file_rules.specs.Refusals.{at_token, too_many}
use Rattle.liberty_statements.specs.declared.halt.Refusal.{Refusal}
use Rattle.liberty_statements.specs.declared.halt.Refusal.TheVariants as reasons
use Rattle.liberty_statements.specs.declared.halt.Halt.{Halt}
use Rattle.liberty_statements.specs.declared.halt.Halt.TheVariants as halts
use Rattle.liberty_statements.specs.declared.statements.Statements.{Statements}
use Rattle.liberty_tokens.specs.Looks.{visible}
use Rattle.liberty_tokens.specs.Names.{content}
use Rattle.liberty_statements.specs.Grammar.{LibertyRule, file}
use Rattle.liberty_statements.specs.ToCome.{Answer}

-- the grammar of files within these limits
unfoldable pub library_file : List ℕ → Limits → LibertyRule
library_file source limits = file source limits limits.nesting

-- the tokens of a text, without the line ends that are blanks
unfoldable pub file_tokens : List ℕ → List Token
file_tokens source = visible source false (tokens_of styles.Liberty source)

abbrev pub refused : List ℕ → Limits → Refusal → FileRefusal
refused source limits (reasons.TooMany kind) = too_many limits kind
refused source limits (reasons.BadName t) = at_token t
refused source limits (reasons.DoubleName t) = refusals.DoubleName (content source t) t.span.line

abbrev pub at_first : List Token → FileRefusal
at_first [] = refusals.Syntax 0 0
at_first (t ∷ ts) = at_token t

abbrev pub told : {X : Type 0} → List ℕ → Limits → (Statements → X) → Answer → Result X FileRefusal
told source limits value (Ok s) = Ok (value s)
told source limits value (Err (syntax rest)) = Err (at_first rest)
told source limits value (Err (refusal e rest)) = Err (refused source limits e)

-- what is told where the reader halts at this token
abbrev pub halted : List ℕ → Limits → Halt → Token → FileRefusal
halted source limits halts.NoMemory t = refusals.NoMemory
halted source limits halts.Syntax t = at_token t
halted source limits (halts.Refused e) t = refused source limits e

abbrev pub same : {X : Type 0} → X → X
same x = x

abbrev pub double : List ℕ → Token → FileRefusal
double source t = refusals.DoubleName (content source t) t.span.line
