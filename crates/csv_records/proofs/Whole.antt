-- The records of a whole text, one after the other.
use Rattle.std.proofs.Common.{◌≡◌, ◌≤◌, ◌<◌, ◌+◌, ◌++◌, ℕ, true, false, List, [], ◌∷◌, length, Some, None, Ok, Err, refl, sym, ap, ◌∙◌, subst, append_assoc, length-append, arith}
use Rattle.std.specs.Prelude.{Option, nat_le}
use Rattle.std.proofs.lemmas.Bool.Decides.{nat_tests}
use Rattle.std.proofs.lemmas.List.{append-nil}
use Rattle.std.specs.Borrow.{Bor}
use Rattle.csv.specs.declared.reader.Reader.{Reader}
use Rattle.text_scan.specs.declared.limits.Limits.{Limits}
use Rattle.text_scan.specs.declared.limits.LimitKind.TheVariants as limit_kinds
use Rattle.text_scan.specs.declared.refusal.FileRefusal.{FileRefusal}
use Rattle.text_scan.specs.declared.refusal.FileRefusal.TheVariants as refusals
use Rattle.file_rules.specs.Refusals.{too_many}
use Rattle.file_rules.specs.Told.{Agrees, TellsSome}
use Rattle.csv_records.specs.Answers.{IsRead, Row, answer, first_refusal, refusal_after}
use Rattle.csv_records.specs.Records.{Gave, HasLeft, records_of}

-- the records that were read and those that are left are those of the text, and none of the former is refused
pub record Stands {X : Type 0} (holds : X → List Row → Type 0) (refuses : List Row → Row → Option FileRefusal) (text : List ℕ) (limits : Limits) (count : ℕ) (reader : Reader (Bor (List ℕ))) (made : X) : Type 0 where
  pub done : List Row
  pub rest : List Row
  pub left : HasLeft reader rest
  pub all : records_of text ≡ done ++ rest
  pub counted : length done ≡ count
  pub held : holds made done
  pub same : first_refusal limits refuses [] (records_of text) ≡ first_refusal limits refuses done rest

module _ {X : Type 0} (holds : X → List Row → Type 0) (refuses : List Row → Row → Option FileRefusal) (text : List ℕ) (limits : Limits) where
  pub starts : (reader : Reader (Bor (List ℕ))) (made : X) → HasLeft reader (records_of text) → holds made [] → Stands holds refuses text limits 0 reader made
  starts reader made left held = record {
    done = [];
    rest = records_of text;
    left = left;
    all = refl;
    counted = refl;
    held = held;
    same = refl;
  }

  judged : (done : List Row) (row : Row) → length done < limits.records → refusal_after limits refuses done row ≡ refuses done row
  unfolding refusal_after
  judged done row lt = let no : nat_le limits.records (length done) ≡ false = grind (arith, nat_tests) in rw no refl

  one_too_many : (done : List Row) (row : Row) → limits.records ≤ length done → refusal_after limits refuses done row ≡ Some (too_many limits limit_kinds.Records)
  unfolding refusal_after
  one_too_many done row le = let yes : nat_le limits.records (length done) ≡ true = grind (arith, nat_tests) in rw yes refl

  later : (done : List Row) (row : Row) (rest : List Row) → refusal_after limits refuses done row ≡ None
      → first_refusal limits refuses done (row ∷ rest) ≡ first_refusal limits refuses (done ++ row ∷ []) rest
  unfolding first_refusal
  later done row rest e = rw e refl

  here : (done : List Row) (row : Row) (rest : List Row) (e : FileRefusal) → refusal_after limits refuses done row ≡ Some e
      → first_refusal limits refuses done (row ∷ rest) ≡ Some e
  unfolding first_refusal
  here done row rest e h = rw h refl

  none_left : (done : List Row) → first_refusal limits refuses done [] ≡ None
  unfolding first_refusal
  none_left done = refl

  pub goes_on : (count : ℕ) (reader reader2 : Reader (Bor (List ℕ))) (made made2 : X) (row : Row) (s : Stands holds refuses text limits count reader made) → count < limits.records
      → Gave true row s.rest reader2 → (refuses s.done row ≡ None) × holds made2 (s.done ++ row ∷ []) → Stands holds refuses text limits (count + 1) reader2 made2
  goes_on count reader reader2 made made2 row s lt g h =
      let few : length s.done < limits.records = rw s.counted lt in
      record {
        done = s.done ++ row ∷ [];
        rest = g.0;
        left = g.2;
        all = s.all ∙ rw g.1 (sym (append_assoc s.done (row ∷ []) g.0));
        counted = length-append s.done (row ∷ []) ∙ ap (λ n. n + 1) s.counted;
        held = h.1;
        same = s.same ∙ rw g.1 (later s.done row g.0 (judged s.done row few ∙ h.0));
      }

  pub ends : (count : ℕ) (reader reader2 : Reader (Bor (List ℕ))) (made : X) (row : Row) (s : Stands holds refuses text limits count reader made)
      → Gave false row s.rest reader2 → IsRead holds limits refuses (records_of text) (Ok made)
  ends count reader reader2 made row s g =
      let all : s.done ≡ records_of text = sym (s.all ∙ rw g (append-nil s.done)) in
      (s.same ∙ rw g (none_left s.done), subst (λ (rows : List Row). holds made rows) all s.held)

  tells_more : (e : FileRefusal) (o p : Option FileRefusal) → (o ≡ Some e → p ≡ Some e) → TellsSome e o → TellsSome e p
  tells_more refusals.NoMemory o p h t = tt
  tells_more (refusals.Syntax line column) o p h t = h t
  tells_more (refusals.TooMany kind number) o p h t = h t
  tells_more (refusals.DoubleName name line) o p h t = h t

  pub refused : (count : ℕ) (reader reader2 : Reader (Bor (List ℕ))) (made : X) (row : Row) (s : Stands holds refuses text limits count reader made) (e : FileRefusal) → count < limits.records
      → Gave true row s.rest reader2 → TellsSome e (refuses s.done row) → IsRead {X = X} holds limits refuses (records_of text) (Err e)
  refused count reader reader2 made row s e lt g t =
      let few : length s.done < limits.records = rw s.counted lt in
      tells_more e (refuses s.done row) (first_refusal limits refuses [] (records_of text))
      (λ h. s.same ∙ rw g.1 (here s.done row g.0 e (judged s.done row few ∙ h))) t

  pub passed : (count : ℕ) (reader reader2 : Reader (Bor (List ℕ))) (made : X) (row : Row) (s : Stands holds refuses text limits count reader made) → limits.records ≤ count
      → Gave true row s.rest reader2 → IsRead {X = X} holds limits refuses (records_of text) (Err (too_many limits limit_kinds.Records))
  passed count reader reader2 made row s le g =
      let full : limits.records ≤ length s.done = rw s.counted le in
      s.same ∙ rw g.1 (here s.done row g.0 _ (one_too_many s.done row full))

-- a value of which no record is refused is the answer
pub answered : {X : Type 0} (o : Option FileRefusal) (x y : X) → o ≡ None → x ≡ y → answer o x ≡ Ok y
answered None x y e h = ap Ok h
answered (Some refusal) x y e h = cc e

-- a refusal that is told is the answer
pub refused_so : {X : Type 0} (e : FileRefusal) (o : Option FileRefusal) (x : X) → TellsSome e o → Agrees (Err e) (answer o x)
refused_so refusals.NoMemory o x t = tt
refused_so (refusals.Syntax line column) o x t = rw t refl
refused_so (refusals.TooMany kind number) o x t = rw t refl
refused_so (refusals.DoubleName name line) o x t = rw t refl
