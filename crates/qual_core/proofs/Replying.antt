-- How the reply is put together.
use Rattle.std.proofs.Common.{◌≡◌, IsSome, ◌&&◌, ◌==◌, ℕ, List, Option, Some, None, Result, Ok, Err, IfOk, true, false, if◌then◌else◌, refl, sym, ap, subst, rules}
use Rattle.liberty_source.specs.declared.Library.{Library}
use Rattle.verilog_source.specs.declared.Source.{Source}
use Rattle.compare_text.specs.declared.report.Totals.{Totals}
use Rattle.compare_text.specs.Blocks.{SaysEqualTruly}
use Rattle.qual_core.specs.Files.{IsLibraryRead, IsSourceRead}
use Rattle.qual_core.specs.Command.{command_of, name_beside}
use Rattle.qual_core.specs.Outcome.{usage, refused, totals_status, IsCompared, IsSecondReply, verilog_refused, compared, IsFirstReply, liberty_refused, liberty_read, IsCompareReply, IsReplyOf, IsOutcome}
use Rattle.qual_core.specs.Top.{IsOnly, IsLibraryOf, IsSourceOf, IsDoneOrFaulty, IsCompareAnswer, IsAnswerTo}
use Rattle.qual_core.specs.declared.command.Command.{Command}
use Rattle.qual_core.specs.declared.command.CommandName.{CommandName}
use Rattle.qual_core.specs.declared.command.CommandName.TheVariants.{Compare}
use Rattle.qual_core.specs.declared.command.FileOption.TheVariants.{Liberty, Verilog}
use Rattle.qual_core.specs.declared.files.Failure.{Failure}
use Rattle.qual_core.specs.declared.reply.Reply.{Reply}
use Rattle.qual_core.specs.declared.reply.Status.TheVariants.{Done, Faulty, FileRefused}
use Rattle.qual_core.proofs.OneOutcome.{one_outcome}

-- a file has one list of bytes
same_bytes : (file : Option (List ℕ)) (a b : List ℕ) → file ≡ Some a → file ≡ Some b → b ≡ a
same_bytes file a b p q = cc

library_is : (file : Option (List ℕ)) (read other : Result Library (List ℕ)) (bytes : List ℕ) → IsLibraryOf file read → file ≡ Some bytes → IsLibraryRead bytes other → other ≡ read
library_is file read other bytes l e h = l.only other (subst (λ b. IsLibraryRead b other) (same_bytes file l.bytes bytes l.there e) h)

source_is : (file : Option (List ℕ)) (read other : Result Source (List ℕ)) (bytes : List ℕ) → IsSourceOf file read → file ≡ Some bytes → IsSourceRead bytes other → other ≡ read
source_is file read other bytes s e h = s.only other (subst (λ b. IsSourceRead b other) (same_bytes file s.bytes bytes s.there e) h)

ok_or_err : {A B : Type 0} (r s : Result A B) (a : A) (b : B) → r ≡ Ok a → s ≡ Err b → r ≡ s → ⊥
ok_or_err r s a b p q e = cc

some_ok : {A B : Type 0} (r s : Result A B) (a b : A) → r ≡ Ok a → s ≡ Ok b → r ≡ s → a ≡ b
some_ok r s a b p q e = cc

same_truth : (text : List ℕ) (library other : Library) (source another : Source) → other ≡ library → another ≡ source → SaysEqualTruly library source text → SaysEqualTruly other another text
same_truth text library other source another e f h = subst (λ l. SaysEqualTruly l another text) (sym e) (subst (λ s. SaysEqualTruly library s text) (sym f) h)

-- what holds of a reply by three facts
pub three_ok : (r : Result Reply Failure) (P Q R S : Reply → Type 0) → ((x : Reply) → P x → Q x → R x → S x) → IfOk r P → IfOk r Q → IfOk r R → IfOk r S
three_ok (Err e) P Q R S f p q t = search rules
three_ok (Ok x) P Q R S f p q t = f x p q t

module _ (liberty verilog : List ℕ) (file : List ℕ → Option (List ℕ)) where
  pub first_refused : (line : List ℕ) → IsLibraryOf (file liberty) (Err line) → IsCompareAnswer liberty verilog file (refused line)
  first_refused line l = record {
    is = (l.bytes, l.there, liberty_refused line l.is refl);
    refused_exactly = λ other h. refl;
    truly = λ a. absurd (ok_or_err (Ok a.library) (Err line) a.library line refl refl (library_is (file liberty) (Err line) (Ok a.library) a.liberty_bytes l a.liberty_there a.is_library));
    accepted = λ a. absurd (ok_or_err (Ok a.library) (Err line) a.library line refl refl (library_is (file liberty) (Err line) (Ok a.library) a.liberty_bytes l a.liberty_there a.is_library));
  }

  pub second_refused : (library : Library) (line : List ℕ) → IsLibraryOf (file liberty) (Ok library) → IsSourceOf (file verilog) (Err line) → IsCompareAnswer liberty verilog file (refused line)
  second_refused library line l s = record {
    is = (l.bytes, l.there, liberty_read library l.is s.bytes s.there (verilog_refused line s.is refl));
    refused_exactly = λ other h. refl;
    truly = λ a. absurd (ok_or_err (Ok a.source) (Err line) a.source line refl refl (source_is (file verilog) (Err line) (Ok a.source) a.verilog_bytes s a.verilog_there a.is_source));
    accepted = λ a. absurd (ok_or_err (Ok a.source) (Err line) a.source line refl refl (source_is (file verilog) (Err line) (Ok a.source) a.verilog_bytes s a.verilog_there a.is_source));
  }

  no_refusal : (t : Totals) → FileRefused ≡ totals_status t → ⊥
  no_refusal t e = elim (t.differs == 0 && t.refused == 0) as (λ b. FileRefused ≡ (if b then Done else Faulty) → ⊥) [ true ↦ λ f. cc | false ↦ λ f. cc ] e

  no_second : (library : Library) (source : Source) (bytes line : List ℕ) → IsSourceOf (file verilog) (Ok source) → file verilog ≡ Some bytes → IsSecondReply library bytes (refused line) → ⊥
  no_second library source bytes line s e (verilog_refused other h f) = ok_or_err (Ok source) (Err other) source other refl refl (sym (source_is (file verilog) (Ok source) (Err other) bytes s e h))
  no_second library source bytes line s e (compared other h (report, is, f)) = no_refusal report.totals (ap (λ (r : Reply). r.status) f)

  no_first : (library : Library) (source : Source) (bytes line : List ℕ) → IsLibraryOf (file liberty) (Ok library) → IsSourceOf (file verilog) (Ok source) → file liberty ≡ Some bytes → IsFirstReply bytes (file verilog) (refused line) → ⊥
  no_first library source bytes line l s e (liberty_refused other h f) = ok_or_err (Ok library) (Err other) library other refl refl (sym (library_is (file liberty) (Ok library) (Err other) bytes l e h))
  no_first library source bytes line l s e (liberty_read other h verilog_bytes there second) = no_second other source verilog_bytes line s there second

  pub both_compared : (library : Library) (source : Source) (reply : Reply) → IsLibraryOf (file liberty) (Ok library) → IsSourceOf (file verilog) (Ok source) → IsCompared library source reply
      → IsDoneOrFaulty reply.status → SaysEqualTruly library source reply.text → IsCompareAnswer liberty verilog file reply
  both_compared library source reply l s c d truly = record {
    is = (l.bytes, l.there, liberty_read library l.is s.bytes s.there (compared source s.is c));
    refused_exactly = λ line h. absurd (no_first library source h.0 line l s h.1 h.2);
    truly = λ a. same_truth reply.text library a.library source a.source
        (some_ok (Ok a.library) (Ok library) a.library library refl refl (library_is (file liberty) (Ok library) (Ok a.library) a.liberty_bytes l a.liberty_there a.is_library))
        (some_ok (Ok a.source) (Ok source) a.source source refl refl (source_is (file verilog) (Ok source) (Ok a.source) a.verilog_bytes s a.verilog_there a.is_source)) truly;
    accepted = λ a. d;
  }

-- ---- the words

only_outcome : (words : List (List ℕ)) (file : List ℕ → Option (List ℕ)) (reply : Reply) → IsOutcome words file reply → IsOnly (IsOutcome words file) reply
only_outcome words file reply o = record { is = o; only = λ other h. one_outcome words file other reply h o }

pub usage_answer : (words : List (List ℕ)) (file : List ℕ → Option (List ℕ)) (reply : Reply) → command_of words ≡ None → reply ≡ usage → IsAnswerTo words file reply
usage_answer words file reply e f = record {
  outcome = only_outcome words file reply (rw e f);
  refused_exactly = λ line r. absurd (let h = rw e at r.0 in cc);
  truly = λ a. absurd (let h : ⊥ = rw e at a.compares in h);
  accepted = λ a. absurd (let h : ⊥ = rw e at a.compares in h);
}

pub compare_name : (name : CommandName) → name ≡ Compare
compare_name Compare = refl

named_outcome : (name : CommandName) (words : List (List ℕ)) (file : List ℕ → Option (List ℕ)) (reply : Reply) → IsCompareReply (name_beside words Liberty) (name_beside words Verilog) file reply → IsReplyOf name words file reply
named_outcome Compare words file reply h = h

pub outcome_named : (name : CommandName) (words : List (List ℕ)) (file : List ℕ → Option (List ℕ)) (reply : Reply) → IsReplyOf name words file reply → IsCompareReply (name_beside words Liberty) (name_beside words Verilog) file reply
outcome_named Compare words file reply h = h

pub compare_answer : (words : List (List ℕ)) (c : Command) (file : List ℕ → Option (List ℕ)) (reply : Reply) → command_of words ≡ Some c
    → IsCompareAnswer (name_beside words Liberty) (name_beside words Verilog) file reply → IsAnswerTo words file reply
compare_answer words c file reply e h = record {
  outcome = only_outcome words file reply (rw e (named_outcome c.name words file reply h.is));
  refused_exactly = λ line r. h.refused_exactly line (outcome_named c.name words file (refused line) (rw e at r.1));
  truly = λ a. h.truly a.files;
  accepted = λ a. h.accepted a.files;
}

-- ---- which files are there where there is a reply

pub liberty_there : (liberty verilog : List ℕ) (file : List ℕ → Option (List ℕ)) (reply : Reply) → IsCompareReply liberty verilog file reply → IsSome (file liberty)
liberty_there liberty verilog file reply h = rw h.1 (search rules)

second_there : (library : Library) (bytes : List ℕ) (second : Option (List ℕ)) (reply : Reply) → ((other : Result Library (List ℕ)) → IsLibraryRead bytes other → other ≡ Ok library) → IsFirstReply bytes second reply → IsSome second
second_there library bytes second reply only (liberty_refused line h e) = absurd (ok_or_err (Ok library) (Err line) library line refl refl (sym (only (Err line) h)))
second_there library bytes second reply only (liberty_read other h text there next) = rw there (search rules)

-- the Verilog file is asked for only where the Liberty file is read
pub verilog_there : (library : Library) (liberty verilog : List ℕ) (file : List ℕ → Option (List ℕ)) (reply : Reply) → IsLibraryOf (file liberty) (Ok library) → IsCompareReply liberty verilog file reply → IsSome (file verilog)
verilog_there library liberty verilog file reply l h =
    second_there library h.0 (file verilog) reply (λ other k. library_is (file liberty) (Ok library) other h.0 l h.1 k) h.2
