-- The grammar outside macros: one statement, one section's first words, a macro's title, or the end of the file.
use Rattle.std.specs.Prelude.{ℕ, ◌&&◌, nat_le, if◌then◌else◌, List, length, Result, Ok, Err}
use Rattle.text_scan.specs.declared.limits.Limits.{Limits}
use Rattle.text_scan.specs.declared.token.Token.{Token}
use Rattle.grammar.specs.Rule.{Rule, none, one, before, alt}
use Rattle.name_index.specs.Places.{is_known}
use Rattle.file_rules.specs.Names.{is_too_long}
use Rattle.lef_reader.specs.declared.halt.Refusal.{Refusal}
use Rattle.lef_reader.specs.declared.halt.Refusal.TheVariants as refusals
use Rattle.lef_reader.specs.declared.lef_text.LefText.{LefText}
use Rattle.lef_reader.specs.declared.until.Closing.TheVariants as closings
use Rattle.lef_reader.specs.declared.until.Until.TheVariants as untils
use Rattle.lef_reader.specs.declared.until.Opened.{Opened}
use Rattle.lef_reader.specs.declared.until.Opened.TheVariants as openings
use Rattle.lef_tokens.specs.Looks.{text, not, at, is_end, is_macro, is_section, is_block, is_extension, is_library, is_over, is_plain, is_passed, can_name}
use Rattle.lef_reader.specs.MacroGrammar.{stays, rest_to, rest_from}

abbrev pub OutsideRule : Type 0
OutsideRule = Rule Token Opened Refusal

abbrev pub Opening : Type 0
Opening = Result Opened Refusal

-- ---- what has begun

abbrev pub open_nothing : Token → Opened → Opening
open_nothing t o = Ok openings.Nothing

abbrev pub open_end : Token → Opened → Opening
open_end t o = Ok openings.End

-- UNITS and the like end with END and their word
abbrev pub open_block : Token → Opened → Opening
open_block t o = Ok (openings.Section (closings.Keyword t))

-- sections with a name end with END and the name
unfoldable pub open_section : List ℕ → Limits → Token → Opened → Opening
open_section source limits t o = if is_too_long limits (text source t) then Err refusals.LongName else Ok (openings.Section (closings.Name t))

-- there may be one macro more
unfoldable pub count_macro : Limits → LefText → Token → Opened → Opening
count_macro limits f t o = if nat_le limits.cells (length f.macros) then Err refusals.TooManyMacros else Ok o

-- a macro's name: its length comes first, then whether it is new
unfoldable pub open_macro : List ℕ → Limits → LefText → Token → Opened → Opening
open_macro source limits f t o =
    if is_too_long limits (text source t) then Err refusals.LongName else
    if is_known (text source t) f.names then Err refusals.DoubleName else
    Ok (openings.Macro t)

module _ (source : List ℕ) where
  -- any other statement
  unfoldable pub statement : OutsideRule
  statement = one (at source is_plain) open_nothing (rest_from source)

  unfoldable pub extension : OutsideRule
  extension = one (at source is_extension) open_nothing (λ t. rest_to source untils.EndExt)

  unfoldable pub block : OutsideRule
  block = one (at source is_block) open_block (λ t. none)

  -- the rest of a statement whose first word is END
  unfoldable pub ending_rest : OutsideRule
  ending_rest = alt (one (at source is_library) open_end (λ t. none)) (one (λ t. is_passed t && not (at source is_library t)) stays (rest_from source))

  -- END LIBRARY ends the file; END alone begins another statement
  unfoldable pub ending : OutsideRule
  ending = one (at source is_end) open_nothing (λ t. ending_rest)

  module _ (limits : Limits) where
    -- a name, or the rest of another statement
    unfoldable pub section_rest : OutsideRule
    section_rest = alt (one (can_name source limits) (open_section source limits) (λ t. none)) (one (λ t. is_passed t && not (can_name source limits t)) stays (rest_from source))

    unfoldable pub section : OutsideRule
    section = one (at source is_section) open_nothing (λ t. section_rest)

    unfoldable pub macro_name : LefText → OutsideRule
    macro_name f = one (can_name source limits) (open_macro source limits f) (λ t. none)

    unfoldable pub title : LefText → OutsideRule
    title f = one (at source is_macro) (count_macro limits f) (λ t. macro_name f)

    -- something outside macros, or a macro's title
    unfoldable pub begun : LefText → OutsideRule
    begun f = alt statement (alt extension (alt block (alt ending (alt section (title f)))))

    -- or nothing, at the end of the text
    unfoldable pub outside : LefText → OutsideRule
    outside f = alt (begun f) (before (at source is_over))
