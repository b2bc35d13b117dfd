-- What the bytes of a file are read as is one thing.
use Rattle.std.proofs.Common.{◌≡◌, ◌≤◌, ◌<◌, ℕ, List, ◌++◌, append_assoc, Result, Ok, Err, codes, refl, sym, ◌∙◌, ap, arith, length}
use Rattle.text_scan.specs.declared.refusal.FileRefusal.{FileRefusal}
use Rattle.text_scan.specs.declared.refusal.FileRefusal.TheVariants.{NoMemory, Syntax, TooMany, DoubleName}
use Rattle.liberty_source.specs.declared.Library.{Library}
use Rattle.verilog_source.specs.declared.Source.{Source}
use Rattle.liberty_statements.specs.Answer as liberty
use Rattle.file_rules.specs.Told as answers
use Rattle.qual_core.specs.Files.{MAX_FILE, IsTold, words_of, refusal_line, IsRefusedFile, too_long, refused}
use Rattle.qual_core.specs.declared.command.FileOption.{FileOption}
use Rattle.grammar.specs.Answers.{IsAnswer}
use Rattle.liberty_statements.specs.Answer.{library_file, file_tokens}
use Rattle.liberty_statements.specs.Does.{nothing}
use Rattle.liberty_statements.specs.ToCome.{Answer}
use Rattle.liberty_reader.specs.Cells.{library as library_of}
use Rattle.verilog_reader.specs.File.{FileAnswer, IsSource as IsSourceAnswer}
use Rattle.verilog_reader.specs.Promise.{told as source_told}
use Rattle.text_scan.specs.Limits.{standard}
use Rattle.qual_core.specs.Files.{IsLibrary, IsSource, IsLibraryRead}
use Rattle.qual_core.specs.declared.command.FileOption.TheVariants.{Liberty}

-- an answer other than want of memory
abbrev pub IsToldResult : {X : Type 0} → Result X FileRefusal → Type 0
IsToldResult (Ok x) = Unit {0}
IsToldResult (Err e) = IsTold e

agrees_told : {X : Type 0} (r y : Result X FileRefusal) → IsToldResult r → answers.Agrees r y → y ≡ r
agrees_told (Ok x) y t a = a
agrees_told (Err NoMemory) y t a = absurd t
agrees_told (Err (Syntax line column)) y t a = a
agrees_told (Err (TooMany kind number)) y t a = a
agrees_told (Err (DoubleName name line)) y t a = a

pub one_library : (bytes : List ℕ) (result : Result Library FileRefusal) → IsToldResult result
    → ((o : Answer) → IsAnswer (library_file bytes standard) nothing (file_tokens bytes) o → answers.Agrees result (liberty.told bytes standard (library_of bytes) o))
    → (r : Result Library FileRefusal) → IsToldResult r → IsLibrary bytes r → r ≡ result
one_library bytes result t only r s i = sym (agrees_told r _ s i.agrees) ∙ agrees_told result _ t (only i.answer i.is)

pub one_source : (bytes : List ℕ) (result : Result Source FileRefusal) → IsToldResult result
    → ((o : FileAnswer) → IsSourceAnswer bytes standard o → answers.Agrees result (source_told o))
    → (r : Result Source FileRefusal) → IsToldResult r → IsSource bytes r → r ≡ result
one_source bytes result t only r s i = sym (agrees_told r _ s i.agrees) ∙ agrees_told result _ t (only i.answer i.is)

same_ok : {A B : Type 0} (r s : Result A B) (x y : A) → r ≡ Ok x → s ≡ Ok y → r ≡ s → x ≡ y
same_ok r s x y p q e = cc

same_err : {A B : Type 0} (r s : Result A B) (x y : B) → r ≡ Err x → s ≡ Err y → r ≡ s → x ≡ y
same_err r s x y p q e = cc

apart : {A B : Type 0} (r s : Result A B) (x : A) (y : B) → r ≡ Ok x → s ≡ Err y → r ≡ s → ⊥
apart r s x y p q e = cc

module _ {X : Type 0} (file : FileOption) (bytes : List ℕ) (answers : Result X FileRefusal → Type 0) where
  -- what IsLibraryRead and IsSourceRead say
  abbrev pub IsReadAs : Result X (List ℕ) → Type 0
  IsReadAs (Ok x) = (length bytes ≤ MAX_FILE) × answers (Ok x)
  IsReadAs (Err line) = IsRefusedFile (λ e. answers (Err e)) file bytes line

  pub only_ok : (x : X) → length bytes ≤ MAX_FILE → ((r : Result X FileRefusal) → IsToldResult r → answers r → r ≡ Ok x) → (other : Result X (List ℕ)) → IsReadAs other → other ≡ Ok x
  only_ok x fits one (Ok y) h = ap (λ z. Ok z) (same_ok _ _ y x refl refl (one (Ok y) tt h.1))
  only_ok x fits one (Err line) (too_long l q) = absurd (omega arith)
  only_ok x fits one (Err line) (refused l e a t q) = absurd (apart _ _ x e refl refl (sym (one (Err e) t a)))

  pub only_err : (e : FileRefusal) (line : List ℕ) → length bytes ≤ MAX_FILE → line ≡ refusal_line file (words_of e)
      → ((r : Result X FileRefusal) → IsToldResult r → answers r → r ≡ Err e) → (other : Result X (List ℕ)) → IsReadAs other → other ≡ Err line
  only_err e line fits told one (Ok y) h = absurd (apart _ _ y e refl refl (one (Ok y) tt h.1))
  only_err e line fits told one (Err other) (too_long l q) = absurd (omega arith)
  only_err e line fits told one (Err other) (refused l d a t q) =
      ap (λ z. Err z) (q ∙ ap (λ k. refusal_line file (words_of k)) (same_err _ _ d e refl refl (one (Err d) t a)) ∙ sym told)

  pub only_long : (line : List ℕ) → MAX_FILE < length bytes → line ≡ refusal_line file (codes "too long") → (other : Result X (List ℕ)) → IsReadAs other → other ≡ Err line
  only_long line long told (Ok y) h = absurd (let f = h.0 in omega arith)
  only_long line long told (Err other) (too_long l q) = ap (λ z. Err z) (q ∙ sym told)
  only_long line long told (Err other) (refused l d a t q) = absurd (omega arith)

pub library_as : (bytes : List ℕ) (other : Result Library (List ℕ)) → IsLibraryRead bytes other → IsReadAs Liberty bytes (IsLibrary bytes) other
library_as bytes (Ok l) h = h
library_as bytes (Err line) h = h

-- words with two numbers, put behind others
pub two_numbers : (old new told a word m b n : List ℕ) → new ≡ old ++ a ++ word ++ m ++ n → word ≡ b → told ≡ a ++ b ++ m ++ n → new ≡ old ++ told
two_numbers old new words a word m b n e f g = rw (g, e, f) (simp append_assoc)
