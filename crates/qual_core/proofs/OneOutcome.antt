-- Words and files have one outcome.
use Rattle.std.proofs.Common.{◌≡◌, ℕ, List, Option, Some, None, Result, Ok, Err, refl, sym, ◌∙◌, ap, subst}
use Rattle.text_scan.specs.Limits.{standard}
use Rattle.text_scan.specs.declared.refusal.FileRefusal.{FileRefusal}
use Rattle.grammar.proofs.Unique.{answer_is_read}
use Rattle.liberty_source.specs.declared.Library.{Library}
use Rattle.liberty_statements.specs.Answer.{library_file, file_tokens, told}
use Rattle.liberty_statements.specs.Does.{nothing}
use Rattle.liberty_statements.specs.ToCome.{Answer}
use Rattle.liberty_reader.specs.Cells.{library as library_of}
use Rattle.liberty_reader.proofs.Public as liberty
use Rattle.verilog_source.specs.declared.Source.{Source}
use Rattle.verilog_reader.proofs.Public as verilog
use Rattle.file_rules.specs.Told.{Agrees}
use Rattle.compare_text.proofs.OneReport.{one_report}
use Rattle.qual_core.specs.Command.{command_of, name_beside}
use Rattle.qual_core.specs.Files.{IsLibrary, IsSource, IsLibraryRead, IsSourceRead, too_long, refused as refused_by}
use Rattle.qual_core.specs.Outcome.{refused, report_reply, IsCompared, IsSecondReply, verilog_refused, compared, IsFirstReply, liberty_refused, liberty_read, IsCompareReply, IsReplyOf, IsReplyTo, IsOutcome}
use Rattle.qual_core.specs.declared.command.Command.{Command}
use Rattle.qual_core.specs.declared.command.CommandName.{CommandName}
use Rattle.qual_core.specs.declared.command.CommandName.TheVariants.{Compare}
use Rattle.qual_core.specs.declared.command.FileOption.TheVariants.{Liberty, Verilog}
use Rattle.qual_core.specs.declared.reply.Reply.{Reply}
use Rattle.qual_core.proofs.Reading.{IsToldResult, IsReadAs, only_ok, only_err, only_long, one_library, one_source, library_as}

-- ---- what the bytes of a file are read as

library_answer : (bytes : List ℕ) (r s : Result Library FileRefusal) → IsToldResult r → IsToldResult s → IsLibrary bytes r → IsLibrary bytes s → s ≡ r
library_answer bytes r s t u h k =
    let read = answer_is_read (library_file bytes standard) (liberty.simple bytes standard) nothing (file_tokens bytes) h.answer h.is in
    let agrees : Agrees r (told bytes standard (library_of bytes) (liberty.whole_answer bytes standard)) = subst (λ (a : Answer). Agrees r (told bytes standard (library_of bytes) a)) (sym read) h.agrees in
    one_library bytes r t (liberty.only_one bytes standard r agrees) s u k

source_answer : (bytes : List ℕ) (r s : Result Source FileRefusal) → IsToldResult r → IsToldResult s → IsSource bytes r → IsSource bytes s → s ≡ r
source_answer bytes r s t u h k = one_source bytes r t (verilog.only_one bytes standard r h) s u k

source_as : (bytes : List ℕ) (other : Result Source (List ℕ)) → IsSourceRead bytes other → IsReadAs Verilog bytes (IsSource bytes) other
source_as bytes (Ok s) h = h
source_as bytes (Err line) h = h

pub library_once : (bytes : List ℕ) (r s : Result Library (List ℕ)) → IsLibraryRead bytes r → IsLibraryRead bytes s → s ≡ r
library_once bytes (Ok l) s h k = only_ok Liberty bytes (IsLibrary bytes) l h.0 (λ q t i. library_answer bytes (Ok l) q tt t h.1 i) s (library_as bytes s k)
library_once bytes (Err line) s (too_long long q) k = only_long Liberty bytes (IsLibrary bytes) line long q s (library_as bytes s k)
library_once bytes (Err line) s (refused_by fits e a t q) k = only_err Liberty bytes (IsLibrary bytes) e line fits q (λ r u i. library_answer bytes (Err e) r t u a i) s (library_as bytes s k)

pub source_once : (bytes : List ℕ) (r s : Result Source (List ℕ)) → IsSourceRead bytes r → IsSourceRead bytes s → s ≡ r
source_once bytes (Ok x) s h k = only_ok Verilog bytes (IsSource bytes) x h.0 (λ q t i. source_answer bytes (Ok x) q tt t h.1 i) s (source_as bytes s k)
source_once bytes (Err line) s (too_long long q) k = only_long Verilog bytes (IsSource bytes) line long q s (source_as bytes s k)
source_once bytes (Err line) s (refused_by fits e a t q) k = only_err Verilog bytes (IsSource bytes) e line fits q (λ r u i. source_answer bytes (Err e) r t u a i) s (source_as bytes s k)

pub same_ok : {A B : Type 0} (r s : Result A B) (x y : A) → r ≡ Ok x → s ≡ Ok y → s ≡ r → x ≡ y
same_ok r s x y p q e = cc

same_err : {A B : Type 0} (r s : Result A B) (x y : B) → r ≡ Err x → s ≡ Err y → s ≡ r → x ≡ y
same_err r s x y p q e = cc

pub ok_or_err : {A B : Type 0} (r s : Result A B) (x : A) (y : B) → r ≡ Ok x → s ≡ Err y → s ≡ r → ⊥
ok_or_err r s x y p q e = cc

pub one_text : (o : Option (List ℕ)) (a b : List ℕ) → o ≡ Some a → o ≡ Some b → a ≡ b
one_text o a b p q = cc

-- ---- the reply

refused_once : (line other : List ℕ) (a b : Reply) → a ≡ refused line → b ≡ refused other → line ≡ other → a ≡ b
refused_once line other a b h k e = h ∙ ap refused e ∙ sym k

compared_once : (library : Library) (source : Source) (a b : Reply) → IsCompared library source a → IsCompared library source b → a ≡ b
compared_once library source a b h k = h.2 ∙ ap report_reply (one_report library source h.0 k.0 h.1 k.1) ∙ sym k.2

second_once : (library : Library) (bytes : List ℕ) (a b : Reply) → IsSecondReply library bytes a → IsSecondReply library bytes b → a ≡ b
second_once library bytes a b (verilog_refused line h e) (verilog_refused other k f) =
    refused_once line other a b e f (same_err (Err line) (Err other) line other refl refl (source_once bytes (Err line) (Err other) h k))
second_once library bytes a b (verilog_refused line h e) (compared source k c) = absurd (ok_or_err (Ok source) (Err line) source line refl refl (source_once bytes (Ok source) (Err line) k h))
second_once library bytes a b (compared source h c) (verilog_refused line k f) = absurd (ok_or_err (Ok source) (Err line) source line refl refl (source_once bytes (Ok source) (Err line) h k))
second_once library bytes a b (compared source h c) (compared other k d) =
    let same : source ≡ other = same_ok (Ok source) (Ok other) source other refl refl (source_once bytes (Ok source) (Ok other) h k) in
    compared_once library other a b (subst (λ s. IsCompared library s a) same c) d

first_once : (bytes : List ℕ) (second : Option (List ℕ)) (a b : Reply) → IsFirstReply bytes second a → IsFirstReply bytes second b → a ≡ b
first_once bytes second a b (liberty_refused line h e) (liberty_refused other k f) =
    refused_once line other a b e f (same_err (Err line) (Err other) line other refl refl (library_once bytes (Err line) (Err other) h k))
first_once bytes second a b (liberty_refused line h e) (liberty_read library k text there c) = absurd (ok_or_err (Ok library) (Err line) library line refl refl (library_once bytes (Ok library) (Err line) k h))
first_once bytes second a b (liberty_read library h text there c) (liberty_refused line k f) = absurd (ok_or_err (Ok library) (Err line) library line refl refl (library_once bytes (Ok library) (Err line) h k))
first_once bytes second a b (liberty_read library h text there c) (liberty_read other k words here d) =
    let same : library ≡ other = same_ok (Ok library) (Ok other) library other refl refl (library_once bytes (Ok library) (Ok other) h k) in
    let bytes_same : text ≡ words = one_text second text words there here in
    second_once other words a b (subst (λ t. IsSecondReply other t a) bytes_same (subst (λ l. IsSecondReply l text a) same c)) d

compare_once : (liberty_name verilog_name : List ℕ) (file : List ℕ → Option (List ℕ)) (a b : Reply) → IsCompareReply liberty_name verilog_name file a → IsCompareReply liberty_name verilog_name file b → a ≡ b
compare_once liberty_name verilog_name file a b h k =
    let same : h.0 ≡ k.0 = one_text (file liberty_name) h.0 k.0 h.1 k.1 in
    first_once k.0 (file verilog_name) a b (subst (λ t. IsFirstReply t (file verilog_name) a) same h.2) k.2

named_once : (name : CommandName) (words : List (List ℕ)) (file : List ℕ → Option (List ℕ)) (a b : Reply) → IsReplyOf name words file a → IsReplyOf name words file b → a ≡ b
named_once Compare words file a b h k = compare_once (name_beside words Liberty) (name_beside words Verilog) file a b h k

reply_once : (o : Option Command) (words : List (List ℕ)) (file : List ℕ → Option (List ℕ)) (a b : Reply) → IsReplyTo o words file a → IsReplyTo o words file b → a ≡ b
reply_once None words file a b h k = h ∙ sym k
reply_once (Some c) words file a b h k = named_once c.name words file a b h k

pub one_outcome : (words : List (List ℕ)) (file : List ℕ → Option (List ℕ)) (a b : Reply) → IsOutcome words file a → IsOutcome words file b → a ≡ b
one_outcome words file a b h k = reply_once (command_of words) words file a b h k
