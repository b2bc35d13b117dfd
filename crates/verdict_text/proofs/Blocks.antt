-- Blocks are told by their lines, and tell their own end.
use Rattle.std.proofs.Common.{◌≡◌, refl, ◌∙◌, sym, ap, subst, ◌≤◌, ◌+◌, ◌-◌, ℕ, zero, suc, Bool, true, false, not, ◌&&◌, ◌==◌, nat_le, nat_lt, List, [], ◌∷◌, ◌++◌, append_assoc, append-nil, length, take, map, Option, Some, None, arith, codes, decimal}
use Rattle.std.specs.List.{list_all, flat_map}
use Rattle.std.specs.Option.{option_map, option_and_then}
use Rattle.std.specs.Str.{bytes_eq}
use Rattle.std.proofs.Math.Seq.{take-append_seam}
use Rattle.std.proofs.lemmas.List.{length-append}
use Rattle.std.proofs.lemmas.List.Folds.{list_all-append}
use Rattle.file_rules.specs.Names.{are_graphic}
use Rattle.file_rules.specs.Kept.{both_true}
use Rattle.verdict_text.specs.Words.{verdict_word}
use Rattle.verdict_text.specs.Lines.{joined, line, count_text, finding_words, finding_text, reason_words, reason_text, word_of_verdict, verdict_texts, block_texts, block}
use Rattle.verdict_text.specs.WellFormed.{is_told_name, is_number, are_findings, is_finding, is_reason, is_verdict, IsWellFormed}
use Rattle.verdict_text.specs.Told.{told_number, told_count, told_checked, told_findings, told_reason, told_verdict, told_lines, told_result, second_word, second_of, result_of, words_of, lines_of}
use Rattle.verdict_text.specs.declared.finding.Finding.{Finding}
use Rattle.verdict_text.specs.declared.reason.Reason.{Reason}
use Rattle.verdict_text.specs.declared.verdict.Verdict.{Verdict}
use Rattle.verdict_text.specs.declared.verdict.Verdict.TheVariants.{Checked, Unchecked, Refused}
use Rattle.verdict_text.specs.declared.verdict.VerdictWord.{VerdictWord}
use Rattle.verdict_text.specs.declared.verdict.VerdictWord.TheVariants as words
use Rattle.verdict_text.specs.declared.verdict.CellResult.{CellResult}
use Rattle.verdict_text.proofs.Cutting.{lacks, are_lines, are_words, joined_lacks, lines_back, words_back, split_first}
use Rattle.verdict_text.proofs.Spelling.{name_graphic, number_graphic, number_back}
use Rattle.verdict_text.proofs.Reasons.{reason_graphic, reason_back, finding_graphic, findings_back}

-- ---- no line of a block has a line end in it

word_graphic : (w : VerdictWord) → are_graphic (verdict_word w) ≡ true
word_graphic words.Qualified = refl
word_graphic words.Waived = refl
word_graphic words.Failed = refl
word_graphic words.Refused = refl

finding_texts_lack : (fs : List Finding) → list_all is_finding fs ≡ true → are_lines (map finding_text fs) ≡ true
finding_texts_lack [] h = refl
finding_texts_lack (f ∷ fs) h =
    let both = both_true (is_finding f) (list_all is_finding fs) h in
    rw (joined_lacks (codes "finding") (finding_words f) refl (finding_graphic f both.0), finding_texts_lack fs both.1) refl

all_findings : (fs : List Finding) → are_findings fs ≡ true → list_all is_finding fs ≡ true
all_findings fs h = (both_true (nat_le (length fs) 2500) (list_all is_finding fs) h).1

count_lacks : (what : List ℕ) (n : ℕ) → are_graphic what ≡ true → is_number n ≡ true → lacks 10 (count_text what n) ≡ true
count_lacks what n h k = joined_lacks what (decimal n ∷ []) h (rw (number_graphic n k) refl)

verdict_texts_lack : (v : Verdict) → is_verdict v ≡ true → are_lines (verdict_texts v) ≡ true
verdict_texts_lack (Checked rows defined fs) h =
    let both = both_true (is_number rows) (is_number defined && are_findings fs) h in
    let rest = both_true (is_number defined) (are_findings fs) both.1 in
    rw (count_lacks (codes "rows") rows refl both.0, count_lacks (codes "defined") defined refl rest.0, finding_texts_lack fs (all_findings fs rest.1)) refl
verdict_texts_lack (Unchecked fs) h =
    rw (finding_texts_lack fs (all_findings fs (both_true (nat_lt 0 (length fs)) (are_findings fs) h).1)) refl
verdict_texts_lack (Refused r) h = rw (joined_lacks (codes "refused") (reason_words r) refl (reason_graphic r h)) refl

-- the lines before the verdict's
abbrev front : CellResult → List (List ℕ)
front r = joined (codes "cell") (r.name ∷ []) ∷ verdict_texts r.verdict

abbrev last : CellResult → List ℕ
last r = joined (codes "verdict") (verdict_word (word_of_verdict r.verdict) ∷ [])

last_lacks : (r : CellResult) → lacks 10 (last r) ≡ true
last_lacks r = joined_lacks (codes "verdict") (verdict_word (word_of_verdict r.verdict) ∷ []) refl (rw (word_graphic (word_of_verdict r.verdict)) refl)

cell_lacks : (r : CellResult) → IsWellFormed r → lacks 10 (joined (codes "cell") (r.name ∷ [])) ≡ true
cell_lacks r w = joined_lacks (codes "cell") (r.name ∷ []) refl (rw (name_graphic r.name w.name) refl)

front_lacks : (r : CellResult) → IsWellFormed r → are_lines (front r) ≡ true
front_lacks r w = rw (cell_lacks r w, verdict_texts_lack r.verdict w.verdict) refl

texts_lack : (r : CellResult) → IsWellFormed r → are_lines (block_texts r) ≡ true
texts_lack r w =
    list_all-append (lacks 10) (front r) (last r ∷ []) ∙ rw (front_lacks r w, last_lacks r) refl

-- ---- the lines tell the result

count_back : (what : List ℕ) (n : ℕ) → are_graphic what ≡ true → is_number n ≡ true → told_count (count_text what n) ≡ Some n
count_back what n h k =
    rw (words_back what (decimal n ∷ []) h (rw (number_graphic n k) refl)) (number_back n k)

checked_back : (rl dl : List ℕ) (fl : List (List ℕ)) (rows defined : ℕ) (fs : List Finding)
    → told_count rl ≡ Some rows → told_count dl ≡ Some defined → told_findings fl ≡ Some fs
    → told_checked (rl ∷ dl ∷ fl) ≡ Some (Checked rows defined fs)
checked_back rl dl fl rows defined fs a b c = rw (a, b, c) refl

refused_back : (first : List ℕ) (others ws : List (List ℕ)) (r : Reason)
    → bytes_eq first (codes "check full") ≡ false → bytes_eq first (codes "check none") ≡ false
    → words_of first ≡ ws → told_reason ws ≡ Some r → told_verdict first others ≡ Some (Refused r)
unfolding told_verdict
refused_back first others ws r a b c d = rw (a, b, c, d) refl

unchecked_back : (fl : List (List ℕ)) (fs : List Finding) → told_findings fl ≡ Some fs → option_map Unchecked (told_findings fl) ≡ Some (Unchecked fs)
unchecked_back fl fs h = rw h refl

full_back : (others : List (List ℕ)) → told_verdict (codes "check full") others ≡ told_checked others
unfolding told_verdict
full_back others = refl

none_back : (others : List (List ℕ)) → told_verdict (codes "check none") others ≡ option_map Unchecked (told_findings others)
unfolding told_verdict
none_back others = refl

lines_told : (cell first : List ℕ) (others : List (List ℕ)) (name : List ℕ) (v : Verdict)
    → second_word cell ≡ Some name → told_verdict first others ≡ Some v → told_lines (cell ∷ first ∷ others) ≡ Some (result_of name v)
lines_told cell first others name v a b = rw (a, b) refl

name_back : (name : List ℕ) → is_told_name name ≡ true → second_word (joined (codes "cell") (name ∷ [])) ≡ Some name
name_back name h = ap second_of (words_back (codes "cell") (name ∷ []) refl (rw (name_graphic name h) refl))

verdict_back : (v : Verdict) → is_verdict v ≡ true → (name : List ℕ) → is_told_name name ≡ true
    → told_lines (joined (codes "cell") (name ∷ []) ∷ verdict_texts v) ≡ Some (result_of name v)
verdict_back (Checked rows defined fs) h name k =
    let both = both_true (is_number rows) (is_number defined && are_findings fs) h in
    let rest = both_true (is_number defined) (are_findings fs) both.1 in
    let rl = count_text (codes "rows") rows in
    let dl = count_text (codes "defined") defined in
    lines_told (joined (codes "cell") (name ∷ [])) (codes "check full") (rl ∷ dl ∷ map finding_text fs) name (Checked rows defined fs) (name_back name k)
    (full_back (rl ∷ dl ∷ map finding_text fs)
    ∙ checked_back rl dl (map finding_text fs) rows defined fs
    (count_back (codes "rows") rows refl both.0) (count_back (codes "defined") defined refl rest.0) (findings_back fs (all_findings fs rest.1)))
verdict_back (Unchecked fs) h name k =
    lines_told (joined (codes "cell") (name ∷ [])) (codes "check none") (map finding_text fs) name (Unchecked fs) (name_back name k)
    (none_back (map finding_text fs)
    ∙ unchecked_back (map finding_text fs) fs (findings_back fs (all_findings fs (both_true (nat_lt 0 (length fs)) (are_findings fs) h).1)))
verdict_back (Refused r) h name k =
    lines_told (joined (codes "cell") (name ∷ [])) (reason_text r) [] name (Refused r) (name_back name k)
    (refused_back (reason_text r) [] (codes "refused" ∷ reason_words r) r refl refl
    (words_back (codes "refused") (reason_words r) refl (reason_graphic r h)) (reason_back r h))

before_last : (xs : List (List ℕ)) (y z : List ℕ) → take (length (xs ++ y ∷ z ∷ []) - 2) (xs ++ y ∷ z ∷ []) ≡ xs
before_last xs y z =
    let l : length (xs ++ y ∷ z ∷ []) ≡ length xs + 2 = length-append xs (y ∷ z ∷ []) in
    let n : length (xs ++ y ∷ z ∷ []) - 2 ≡ length xs = omega (arith, l) in
    rw n (take-append_seam xs (y ∷ z ∷ []))

pub told_back : (r : CellResult) → IsWellFormed r → told_result (lines_of (block r)) ≡ Some r
told_back r w =
    ap told_result (lines_back (block_texts r) (texts_lack r w) ∙ append_assoc (front r) (last r ∷ []) ([] ∷ []))
    ∙ (ap told_lines (before_last (front r) (last r) []) ∙ verdict_back r.verdict w.verdict r.name w.name)

-- ---- a block tells its own end

-- a verdict's line, by its first byte
abbrev is_last : List ℕ → Bool
is_last [] = false
is_last (x ∷ xs) = x == 118

abbrev are_before : List (List ℕ) → Bool
are_before ts = list_all (λ t. not (is_last t)) ts

findings_before : (fs : List Finding) → are_before (map finding_text fs) ≡ true
findings_before [] = refl
findings_before (f ∷ fs) = findings_before fs

front_before : (r : CellResult) → are_before (front r) ≡ true
front_before r = texts_before r.verdict
  where
    texts_before : (v : Verdict) → are_before (verdict_texts v) ≡ true
    texts_before (Checked rows defined fs) = findings_before fs
    texts_before (Unchecked fs) = findings_before fs
    texts_before (Refused reason) = refl

joined_lines : (ts : List (List ℕ)) (x : List ℕ) → are_lines ts ≡ true → lines_of (flat_map line ts ++ x) ≡ ts ++ lines_of x
joined_lines [] x h = refl
joined_lines (t ∷ ts) x h =
    let both = both_true (lacks 10 t) (are_lines ts) h in
    ap lines_of (append_assoc (line t) (flat_map line ts) x ∙ append_assoc t (10 ∷ []) (flat_map line ts ++ x))
    ∙ (split_first 10 t (flat_map line ts ++ x) both.0 ∙ ap (λ rest. t ∷ rest) (joined_lines ts x both.1))

heads : {A : Type 0} (a b : A) (p q : List A) → a ∷ p ≡ b ∷ q → (a ≡ b) × (p ≡ q)
heads a b p q h = (cc, cc)

apart : (t : List ℕ) → is_last t ≡ true → not (is_last t) ≡ true → ⊥
apart t h k = clash (is_last t) h k
  where
    clash : (v : Bool) → v ≡ true → not v ≡ true → ⊥
    clash true h k = absurd cc
    clash false h k = absurd cc

-- what stands before the first line of a verdict, and behind it
peeled : (xs ys : List (List ℕ)) (a b : List ℕ) (p q : List (List ℕ)) → are_before xs ≡ true → are_before ys ≡ true
    → is_last a ≡ true → is_last b ≡ true → xs ++ a ∷ p ≡ ys ++ b ∷ q → xs ≡ ys
peeled [] [] a b p q h k l m e = refl
peeled [] (y ∷ ys) a b p q h k l m e =
    let same = heads a y p (ys ++ b ∷ q) e in
    absurd (apart y (subst (λ t. is_last t ≡ true) same.0 l) (both_true (not (is_last y)) (are_before ys) k).0)
peeled (x ∷ xs) [] a b p q h k l m e =
    let same = heads x b (xs ++ a ∷ p) q e in
    absurd (apart x (subst (λ t. is_last t ≡ true) (sym same.0) m) (both_true (not (is_last x)) (are_before xs) h).0)
peeled (x ∷ xs) (y ∷ ys) a b p q h k l m e =
    let same = heads x y (xs ++ a ∷ p) (ys ++ b ∷ q) e in
    let rest : xs ≡ ys = peeled xs ys a b p q (both_true (not (is_last x)) (are_before xs) h).1 (both_true (not (is_last y)) (are_before ys) k).1 l m same.1 in
    let first : x ≡ y = same.0 in
    cc

left_off : (zs x y : List ℕ) → zs ++ x ≡ zs ++ y → x ≡ y
left_off [] x y h = h
left_off (z ∷ zs) x y h = left_off zs x y (heads z z (zs ++ x) (zs ++ y) h).1

fronts_same : (r s : CellResult) (x y : List ℕ) → IsWellFormed r → IsWellFormed s → block r ++ x ≡ block s ++ y → front r ≡ front s
fronts_same r s x y v w e =
    let a : lines_of (block r ++ x) ≡ front r ++ last r ∷ lines_of x =
    joined_lines (block_texts r) x (texts_lack r v) ∙ append_assoc (front r) (last r ∷ []) (lines_of x) in
    let b : lines_of (block s ++ y) ≡ front s ++ last s ∷ lines_of y =
    joined_lines (block_texts s) y (texts_lack s w) ∙ append_assoc (front s) (last s ∷ []) (lines_of y) in
    peeled (front r) (front s) (last r) (last s) (lines_of x) (lines_of y) (front_before r) (front_before s) refl refl (sym a ∙ (ap lines_of e ∙ b))

some_same : {A : Type 0} (a b : A) → Some a ≡ Some b → a ≡ b
some_same a b h = cc

pub told_apart : (r s : CellResult) (x y : List ℕ) → IsWellFormed r → IsWellFormed s → block r ++ x ≡ block s ++ y → (r ≡ s) × (x ≡ y)
told_apart r s x y v w e =
    let told : Some r ≡ Some s =
    sym (verdict_back r.verdict v.verdict r.name v.name) ∙ (ap told_lines (fronts_same r s x y v w e) ∙ verdict_back s.verdict w.verdict s.name w.name) in
    let same : r ≡ s = some_same r s told in
    (same, left_off (block s) x y (ap (λ q. block q ++ x) (sym same) ∙ e))
