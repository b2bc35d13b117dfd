-- What a LEF file is: statements and sections that are passed over, macros, and an end.
use Rattle.std.specs.Prelude.{◌≡◌, ℕ, zero, suc, true, false, ◌++◌, if◌then◌else◌, List, [], ◌∷◌, codes, Result, Ok, Err}
use Rattle.text_scan.specs.declared.limits.Limits.{Limits}
use Rattle.text_scan.specs.declared.limits.LimitKind.TheVariants as limit_kinds
use Rattle.text_scan.specs.declared.refusal.FileRefusal.{FileRefusal}
use Rattle.text_scan.specs.declared.refusal.FileRefusal.TheVariants as told
use Rattle.text_scan.specs.declared.token.Token.{Token}
use Rattle.text_scan.specs.declared.token.Style.TheVariants.{Lef}
use Rattle.text_scan.specs.Tokens.{tokens_of}
use Rattle.file_rules.specs.Refusals.{at_token, too_many}
use Rattle.grammar.specs.Reading.{Stop, syntax, refusal}
use Rattle.lef_source.specs.declared.MacroPart.{MacroPart}
use Rattle.lef_source.specs.declared.MacroPart.TheVariants as parts
use Rattle.lef_reader.specs.declared.halt.Refusal.{Refusal}
use Rattle.lef_reader.specs.declared.halt.Refusal.TheVariants as refusals
use Rattle.lef_reader.specs.declared.lef_text.LefText.{LefText}
use Rattle.lef_reader.specs.declared.macro_text.MacroText.{MacroText}
use Rattle.lef_reader.specs.declared.until.Closing.TheVariants as closings
use Rattle.lef_reader.specs.declared.until.Opened.{Opened}
use Rattle.lef_reader.specs.declared.until.Opened.TheVariants as openings
use Rattle.lef_reader.specs.First.{First, IsFirst}
use Rattle.lef_tokens.specs.Looks.{text, is_passed, word_of}
use Rattle.lef_reader.specs.Passing.{behind, is_name_of}
use Rattle.lef_reader.specs.MacroActions.{no_macro, macro_of}
use Rattle.lef_reader.specs.MacroGrammar.{macro_body}
use Rattle.lef_reader.specs.OutsideGrammar.{outside}

abbrev pub FileAnswer : Type 0
FileAnswer = Result LefText FileRefusal

-- ---- how a refusal of the file is told

-- the first token that can't follow
abbrev pub at_first : List Token → FileRefusal
at_first [] = told.Syntax 0 0
at_first (t ∷ ts) = at_token t

abbrev pub double_name : List ℕ → List Token → FileRefusal
double_name source [] = told.Syntax 0 0
double_name source (t ∷ ts) = told.DoubleName (text source t) t.span.line

-- what an action refuses at the first of these tokens
abbrev pub told_refusal : List ℕ → Limits → Refusal → List Token → FileRefusal
told_refusal source limits refusals.TooManyMacros ts = too_many limits limit_kinds.Cells
told_refusal source limits refusals.LongName ts = too_many limits limit_kinds.Name
told_refusal source limits refusals.DoubleName ts = double_name source ts
told_refusal source limits refusals.OtherEnd ts = at_first ts

abbrev pub told_stop : List ℕ → Limits → Stop Token Refusal → FileRefusal
told_stop source limits (syntax ts) = at_first ts
told_stop source limits (refusal e ts) = told_refusal source limits e ts

-- ---- macros

abbrev pub no_lef : LefText
no_lef = record { names = []; macros = [] }

-- one macro more
abbrev pub with_macro : List ℕ → MacroPart → LefText → LefText
with_macro name part f = record { names = f.names ++ name ∷ []; macros = f.macros ++ part ∷ [] }

abbrev pub whole : List ℕ → Token → MacroText → LefText → LefText
whole source name m f = with_macro (text source name) (parts.Whole (macro_of source (text source name) m)) f

abbrev pub refused : List ℕ → Token → List ℕ → ℕ → LefText → LefText
refused source name word line f = with_macro (text source name) (parts.Refused (text source name) word line) f

-- the word behind an END that isn't its own: the macro's end in a pin is shown as end
abbrev pub ending_word : List ℕ → Token → Token → List ℕ
ending_word source name t = if is_name_of source name t then codes "end" else word_of source t

-- what comes of a macro: more of the file, from these tokens on or behind the END and name of the refused macro, or
-- the refusal of the file
pub data Next : Type 0 where
  Goes : LefText → List Token → Next
  Stops : FileRefusal → Next

-- the file goes on behind the tokens that are passed over
abbrev pub goes_behind : LefText → Result (List Token) (List Token) → Next
goes_behind f (Ok us) = Goes f us
goes_behind f (Err us) = Stops (at_first us)

-- the macro is refused at a token where its grammar can't go on, if that may be passed over
abbrev pub refused_at : List ℕ → Token → LefText → List Token → Next
refused_at source name f [] = Stops (at_first [])
refused_at source name f (t ∷ ts) =
    if is_passed t then goes_behind (refused source name (word_of source t) t.span.line f) (behind source (closings.Name name) false (t ∷ ts))
    else Stops (at_token t)

-- the macro is refused at the word behind an END
abbrev pub refused_at_end : List ℕ → Token → LefText → List Token → Next
refused_at_end source name f [] = Stops (at_first [])
refused_at_end source name f (t ∷ ts) = goes_behind (refused source name (ending_word source name t) t.span.line f) (behind source (closings.Name name) true (t ∷ ts))

abbrev pub after_macro : List ℕ → Limits → Token → LefText → First Token MacroText Refusal → Next
after_macro source limits name f (Ok x) = Goes (whole source name x.0 f) x.1
after_macro source limits name f (Err (syntax ts)) = refused_at source name f ts
after_macro source limits name f (Err (refusal refusals.OtherEnd ts)) = refused_at_end source name f ts
after_macro source limits name f (Err (refusal e ts)) = Stops (told_refusal source limits e ts)

-- ---- the file

module _ (source : List ℕ) (limits : Limits) where
  abbrev pub Then : (LefText → List Token → FileAnswer → Type 0) → Next → FileAnswer → Type 0
  Then File (Goes f ts) r = File f ts r
  Then File (Stops e) r = r ≡ Err e

  -- what has begun outside macros leads to
  abbrev pub Opens : (LefText → List Token → FileAnswer → Type 0) → Opened → LefText → List Token → FileAnswer → Type 0
  Opens File openings.Nothing f ts r = File f ts r
  Opens File (openings.Section closing) f ts r = Then File (goes_behind f (behind source closing false ts)) r
  Opens File (openings.Macro name) f ts r = (o : First Token MacroText Refusal) × IsFirst (macro_body source limits name) no_macro ts o × Then File (after_macro source limits name f o) r
  Opens File openings.End f ts r = r ≡ Ok f

  abbrev pub AfterOutside : (LefText → List Token → FileAnswer → Type 0) → LefText → First Token Opened Refusal → FileAnswer → Type 0
  AfterOutside File f (Ok x) r = Opens File x.0 f x.1 r
  AfterOutside File f (Err stop) r = r ≡ Err (told_stop source limits stop)

  -- a file of at most so many statements, sections and macros, its end among them, behind these macros; it has ended
  -- unless something begins
  abbrev pub IsFile : ℕ → LefText → List Token → FileAnswer → Type 0
  IsFile zero f ts r = ⊥
  IsFile (suc k) f ts r = (o : First Token Opened Refusal) × IsFirst (outside source limits f) openings.End ts o × AfterOutside (IsFile k) f o r

-- the answer that the grammar gives a text
abbrev pub IsLefText : List ℕ → Limits → FileAnswer → Type 0
IsLefText source limits r = (k : ℕ) × IsFile source limits k no_lef (tokens_of Lef source) r
