-- What was told counts where it is written as the text, and nothing else has the text as its block.
use Rattle.std.proofs.Common.{◌≡◌, ◌∙◌, refl, sym, ap, subst, ◌≤◌, ◌≢◌, ◌-◌, ℕ, true, ◌&&◌, List, length, map, take, Option, Some, None, Result, Ok, Err, IfOk, Bor}
use Rattle.std.proofs.lemmas.List.{take-map, length-map}
use Rattle.file_rules.specs.Kept.{both_true}
use Rattle.verdict_text.specs.Lines.{block}
use Rattle.verdict_text.specs.WellFormed.{is_told_name, is_verdict, IsWellFormed}
use Rattle.verdict_text.specs.Told.{IsChecked, told_result, told_lines, lines_of}
use Rattle.verdict_text.specs.Block.{IsReadBack}
use Rattle.verdict_text.specs.declared.verdict.CellResult.{CellResult}
use Rattle.verdict_text.proofs.Blocks.{told_back}

pub is_checked : (r : CellResult) (text : List ℕ) → (is_told_name r.name && is_verdict r.verdict) ≡ true → block r ≡ text → length text ≤ 1048576
    → IsChecked r text (Some r)
is_checked r text h e l =
    let both = both_true (is_told_name r.name) (is_verdict r.verdict) h in
    (refl, record { name = both.0; verdict = both.1; short = subst (λ t. length t ≤ 1048576) (sym e) l }, e)

pub not_told : (text : List ℕ) → told_result (lines_of text) ≡ None → (r : CellResult) → IsWellFormed r → block r ≢ text
not_told text h r w e =
    let k : Some r ≡ None = sym (told_back r w) ∙ (ap (λ t. told_result (lines_of t)) e ∙ h) in
    absurd cc

some_same : {A : Type 0} (a b : A) → Some a ≡ Some b → a ≡ b
some_same a b h = cc

-- a well-formed result with this text as its block is the one that is told
pub read_so : (text : List ℕ) (cell : CellResult) (o : Option CellResult) → told_result (lines_of text) ≡ Some cell → IsChecked cell text o → IsReadBack text o
read_so text cell (Some r) h c = (c.1, c.2)
read_so text cell None h c = λ r w e.
    let same : r ≡ cell = some_same r cell (sym (told_back r w) ∙ (ap (λ t. told_result (lines_of t)) e ∙ h)) in
    c (subst IsWellFormed same w) (ap block (sym same) ∙ e)

pub if_ok : {T E : Type 0} (r : Result T E) (P Q : T → Type 0) → IfOk r P → ((x : T) → P x → Q x) → IfOk r Q
if_ok (Ok x) P Q h k = k x h
if_ok (Err e) P Q h k = h

pub told_before : (ls : List (Bor (List ℕ))) → told_lines (map (λ l. l.now) (take (length ls - 2) ls)) ≡ told_result (map (λ l. l.now) ls)
told_before ls =
    ap told_lines (sym (take-map (λ l. l.now) (length ls - 2) ls) ∙ ap (λ n. take (n - 2) (map (λ l. l.now) ls)) (sym (length-map ls (λ l. l.now))))
