-- What is read outside macros.
use Rattle.std.proofs.Common.{◌≡◌, ◌<◌, ◌≤◌, ℕ, true, false, List, ◌∷◌, length, None, Result, Ok, Err, refl, sym, ap, subst, ◌∙◌, arith}
use Rattle.std.specs.Prelude.{nat_le}
use Rattle.text_scan.specs.declared.limits.Limits.{Limits}
use Rattle.text_scan.specs.declared.token.Token.{Token}
use Rattle.name_index.specs.Places.{is_known}
use Rattle.file_rules.specs.Names.{is_too_long}
use Rattle.grammar.specs.Reading.{syntax, refusal, read}
use Rattle.lef_reader.specs.declared.halt.Halt.{Halt}
use Rattle.lef_reader.specs.declared.halt.Halt.TheVariants as halts
use Rattle.lef_reader.specs.declared.halt.Refusal.TheVariants as refusals
use Rattle.lef_tokens.specs.declared.look.Look.{Look}
use Rattle.lef_tokens.specs.declared.look.Look.TheVariants as looks
use Rattle.lef_reader.specs.declared.lef_text.LefText.{LefText}
use Rattle.lef_reader.specs.declared.until.Until.TheVariants as untils
use Rattle.lef_reader.specs.declared.until.Closing.TheVariants as closings
use Rattle.lef_reader.specs.declared.until.Opened.TheVariants as openings
use Rattle.lef_tokens.specs.Looks.{text, look_of, is_plain, is_library, is_over, is_passed, can_name}
use Rattle.lef_reader.specs.Passing.{passed, dropped, past_statement}
use Rattle.lef_reader.specs.OutsideGrammar.{open_section, count_macro, open_macro, statement, extension, block, ending_rest, ending, section_rest, section, macro_name, title, begun, outside}
use Rattle.lef_reader.specs.Steps.{IsBehind, Halts, Finds}
use Rattle.lef_reader.proofs.Skipped.{Read, behind_read, rest_read, statement_read}

pub finds_along : {S : Type 0} (r : Result S Halt) (x y : Read S) (us : List Token) → x ≡ y → Finds r y us → Finds r x us
finds_along r x y us e h = subst (λ z. Finds r z us) (sym e) h

-- nothing has begun behind what was passed over
pub behind_halts : {S : Type 0} (h : Halt) (o : Result (List Token) (List Token)) (x : Read S) (s : S) (us : List Token) → x ≡ behind_read s o → IsBehind {U = Unit {0}} (Err h) o us → Halts h x us
behind_halts halts.NoMemory o x s us e g = tt
behind_halts halts.Syntax o x s us e g = e ∙ ap (behind_read s) g.1
behind_halts (halts.Refused r) o x s us e g = absurd (let bad = g.0 in cc)

plain_goes : (l : Look) → is_plain l ≡ true → is_over l ≡ false
plain_goes looks.Over h = absurd cc
plain_goes _ h = refl

pub library_goes : (l : Look) → is_library l ≡ true → is_over l ≡ false
library_goes looks.Over h = absurd cc
library_goes _ h = refl

pub plain_over : (l : Look) → is_plain l ≡ true → is_over l ≡ false
plain_over l h = plain_goes l h

-- what begins another statement
pub other_plain : (l : Look) → (l ≡ looks.Macro → ⊥) → (l ≡ looks.Section → ⊥) → (l ≡ looks.Block → ⊥) → (l ≡ looks.Extension → ⊥) → (l ≡ looks.End → ⊥) → (l ≡ looks.Barred → ⊥) → (l ≡ looks.Over → ⊥) → is_plain l ≡ true
other_plain looks.Macro a b c d e f g = absurd (a refl)
other_plain looks.Section a b c d e f g = absurd (b refl)
other_plain looks.Block a b c d e f g = absurd (c refl)
other_plain looks.Extension a b c d e f g = absurd (d refl)
other_plain looks.End a b c d e f g = absurd (e refl)
other_plain looks.Barred a b c d e f g = absurd (f refl)
other_plain looks.Over a b c d e f g = absurd (g refl)
other_plain _ a b c d e f g = refl

module _ (source : List ℕ) where
  pub plain_read : (t : Token) (ts : List Token) → is_plain (look_of source t) ≡ true → read (statement source) openings.End (t ∷ ts) ≡ behind_read openings.Nothing (past_statement source (t ∷ ts))
  unfolding statement
  plain_read t ts h = rw h (statement_read source openings.Nothing t ts)

  pub extension_read : (t : Token) (ts : List Token) → look_of source t ≡ looks.Extension → read (extension source) openings.End (t ∷ ts) ≡ behind_read openings.Nothing (dropped (passed source untils.EndExt None ts))
  unfolding extension
  extension_read t ts h = rw h (rest_read source untils.EndExt None openings.Nothing ts)

  pub block_read : (t : Token) (ts : List Token) → look_of source t ≡ looks.Block → read (block source) openings.End (t ∷ ts) ≡ Ok (openings.Section (closings.Keyword t), ts)
  unfolding block
  block_read t ts h = rw h refl

  -- ---- END

  pub library_read : (t u : Token) (us : List Token) → look_of source t ≡ looks.End → is_library (look_of source u) ≡ true → read (ending source) openings.End (t ∷ u ∷ us) ≡ Ok (openings.End, us)
  unfolding ending ending_rest
  library_read t u us h k = rw (h, k) refl

  pub ending_stops : (t u : Token) (us : List Token) → look_of source t ≡ looks.End → is_library (look_of source u) ≡ false → is_passed u ≡ false → read (ending source) openings.End (t ∷ u ∷ us) ≡ Err (syntax (u ∷ us))
  unfolding ending ending_rest
  ending_stops t u us h k p = rw (h, k, p) refl

  pub ending_other : (t u : Token) (us : List Token) → look_of source t ≡ looks.End → is_library (look_of source u) ≡ false → is_passed u ≡ true → read (ending source) openings.End (t ∷ u ∷ us) ≡ behind_read openings.Nothing (past_statement source (u ∷ us))
  unfolding ending ending_rest
  ending_other t u us h k p = rw (h, k, p) (statement_read source openings.Nothing u us)

  module _ (limits : Limits) where
    -- ---- sections

    pub section_named : (t u : Token) (us : List Token) → look_of source t ≡ looks.Section → read (section source limits) openings.End (t ∷ u ∷ us) ≡ read (section_rest source limits) openings.Nothing (u ∷ us)
    unfolding section
    section_named t u us h = rw h refl

    pub section_stops : (t u : Token) (us : List Token) → look_of source t ≡ looks.Section → can_name source limits u ≡ false → is_passed u ≡ false → read (section source limits) openings.End (t ∷ u ∷ us) ≡ Err (syntax (u ∷ us))
    unfolding section section_rest
    section_stops t u us h k p = rw (h, k, p) refl

    pub section_other : (t u : Token) (us : List Token) → look_of source t ≡ looks.Section → can_name source limits u ≡ false → is_passed u ≡ true → read (section source limits) openings.End (t ∷ u ∷ us) ≡ behind_read openings.Nothing (past_statement source (u ∷ us))
    unfolding section section_rest
    section_other t u us h k p = rw (h, k, p) (statement_read source openings.Nothing u us)

    pub section_long : (t : Token) (ts : List Token) → can_name source limits t ≡ true → is_too_long limits (text source t) ≡ true → read (section_rest source limits) openings.Nothing (t ∷ ts) ≡ Err (refusal refusals.LongName (t ∷ ts))
    unfolding section_rest open_section
    section_long t ts h k = rw (h, k) refl

    pub section_begins : (t : Token) (ts : List Token) → can_name source limits t ≡ true → is_too_long limits (text source t) ≡ false → read (section_rest source limits) openings.Nothing (t ∷ ts) ≡ Ok (openings.Section (closings.Name t), ts)
    unfolding section_rest open_section
    section_begins t ts h k = rw (h, k) refl

    -- ---- titles

    module _ (f : LefText) where
      pub title_full : (t : Token) (ts : List Token) → look_of source t ≡ looks.Macro → limits.cells ≤ length f.macros → read (title source limits f) openings.End (t ∷ ts) ≡ Err (refusal refusals.TooManyMacros (t ∷ ts))
      unfolding title count_macro
      title_full t ts h k = let full : nat_le limits.cells (length f.macros) ≡ true = grind arith in rw (h, full) refl

      pub title_counted : (t : Token) (ts : List Token) → look_of source t ≡ looks.Macro → length f.macros < limits.cells → read (title source limits f) openings.End (t ∷ ts) ≡ read (macro_name source limits f) openings.End ts
      unfolding title count_macro
      title_counted t ts h k = let room : nat_le limits.cells (length f.macros) ≡ false = grind arith in rw (h, room) refl

      pub name_bad : (t : Token) (ts : List Token) → can_name source limits t ≡ false → read (macro_name source limits f) openings.End (t ∷ ts) ≡ Err (syntax (t ∷ ts))
      unfolding macro_name
      name_bad t ts h = rw h refl

      pub name_long : (t : Token) (ts : List Token) → can_name source limits t ≡ true → is_too_long limits (text source t) ≡ true → read (macro_name source limits f) openings.End (t ∷ ts) ≡ Err (refusal refusals.LongName (t ∷ ts))
      unfolding macro_name open_macro
      name_long t ts h k = rw (h, k) refl

      pub name_known : (t : Token) (ts : List Token) → can_name source limits t ≡ true → is_too_long limits (text source t) ≡ false → is_known (text source t) f.names ≡ true → read (macro_name source limits f) openings.End (t ∷ ts) ≡ Err (refusal refusals.DoubleName (t ∷ ts))
      unfolding macro_name open_macro
      name_known t ts h k g = rw (h, k, g) refl

      pub name_new : (t : Token) (ts : List Token) → can_name source limits t ≡ true → is_too_long limits (text source t) ≡ false → is_known (text source t) f.names ≡ false → read (macro_name source limits f) openings.End (t ∷ ts) ≡ Ok (openings.Macro t, ts)
      unfolding macro_name open_macro
      name_new t ts h k g = rw (h, k, g) refl

      -- ---- all of them

      outside_plain_by : (l : Look) (t : Token) (ts : List Token) → look_of source t ≡ l → is_plain l ≡ true → read (outside source limits f) openings.End (t ∷ ts) ≡ read (statement source) openings.End (t ∷ ts)
      unfolding outside begun statement
      outside_plain_by looks.Macro t ts h k = absurd cc
      outside_plain_by looks.Section t ts h k = absurd cc
      outside_plain_by looks.Block t ts h k = absurd cc
      outside_plain_by looks.Extension t ts h k = absurd cc
      outside_plain_by looks.End t ts h k = absurd cc
      outside_plain_by looks.Barred t ts h k = absurd cc
      outside_plain_by looks.Over t ts h k = absurd cc
      outside_plain_by _ t ts h k = rw h refl

      pub outside_plain : (t : Token) (ts : List Token) → is_plain (look_of source t) ≡ true → read (outside source limits f) openings.End (t ∷ ts) ≡ read (statement source) openings.End (t ∷ ts)
      outside_plain t ts h = outside_plain_by (look_of source t) t ts refl h

      pub outside_extension : (t : Token) (ts : List Token) → look_of source t ≡ looks.Extension → read (outside source limits f) openings.End (t ∷ ts) ≡ read (extension source) openings.End (t ∷ ts)
      unfolding outside begun statement extension
      outside_extension t ts h = rw h refl

      pub outside_block : (t : Token) (ts : List Token) → look_of source t ≡ looks.Block → read (outside source limits f) openings.End (t ∷ ts) ≡ read (block source) openings.End (t ∷ ts)
      unfolding outside begun statement extension block
      outside_block t ts h = rw h refl

      pub outside_ending : (t : Token) (ts : List Token) → look_of source t ≡ looks.End → read (outside source limits f) openings.End (t ∷ ts) ≡ read (ending source) openings.End (t ∷ ts)
      unfolding outside begun statement extension block ending
      outside_ending t ts h = rw h refl

      pub outside_section : (t : Token) (ts : List Token) → look_of source t ≡ looks.Section → read (outside source limits f) openings.End (t ∷ ts) ≡ read (section source limits) openings.End (t ∷ ts)
      unfolding outside begun statement extension block ending section
      outside_section t ts h = rw h refl

      pub outside_title : (t : Token) (ts : List Token) → look_of source t ≡ looks.Macro → read (outside source limits f) openings.End (t ∷ ts) ≡ read (title source limits f) openings.End (t ∷ ts)
      unfolding outside begun statement extension block ending section title
      outside_title t ts h = rw h refl

      pub outside_over : (t : Token) (ts : List Token) → look_of source t ≡ looks.Over → read (outside source limits f) openings.End (t ∷ ts) ≡ Ok (openings.End, t ∷ ts)
      unfolding outside begun statement extension block ending section title
      outside_over t ts h = rw h refl

      pub outside_barred : (t : Token) (ts : List Token) → look_of source t ≡ looks.Barred → read (outside source limits f) openings.End (t ∷ ts) ≡ Err (syntax (t ∷ ts))
      unfolding outside begun statement extension block ending section title
      outside_barred t ts h = rw h refl
