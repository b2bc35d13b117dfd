-- The lines of findings.
use Rattle.std.proofs.Common.{◌≡◌, refl, ap, sym, ◌∙◌, append_assoc, ℕ, codes, decimal, OnOk, Result, Ok, Err, List, [], ◌∷◌, ◌++◌, map}
use Rattle.std.specs.List.{flat_map}
use Rattle.std.proofs.lemmas.Grind.{flat_map-append}
use Rattle.verdict_text.specs.Lines.{line, after_blank, spaced, row_words, finding_text, finding_line}
use Rattle.verdict_text.specs.declared.finding.Finding.{Finding}

pub findings_joined : (fs : List Finding) → flat_map line (map finding_text fs) ≡ flat_map finding_line fs
findings_joined [] = refl
findings_joined (f ∷ fs) = ap (λ rest. finding_line f ++ rest) (findings_joined fs)

-- the words of values that differ, put together from three parts
pub mismatch_joined : (text : List ℕ) (row : ℕ) (change : List ℕ) (values : List (List ℕ))
    → ((text ++ spaced (row_words row)) ++ after_blank change) ++ spaced values ≡ text ++ spaced (row_words row ++ change ∷ values)
mismatch_joined text row change values =
    append_assoc (text ++ spaced (row_words row)) (after_blank change) (spaced values)
    ∙ (append_assoc text (spaced (row_words row)) (after_blank change ++ spaced values)
    ∙ ap (λ k. text ++ k) (sym (flat_map-append after_blank (row_words row) (change ∷ values))))

-- three lines before others
pub three_before : (text a b c d : List ℕ) → (((text ++ a) ++ b) ++ c) ++ d ≡ text ++ (a ++ (b ++ (c ++ d)))
three_before text a b c d =
    append_assoc ((text ++ a) ++ b) c d ∙ (append_assoc (text ++ a) b (c ++ d) ∙ append_assoc text a (b ++ (c ++ d)))

pub on_ok : {T E : Type 0} (r : Result T E) (P Q : Type 0) → OnOk r P → (P → Q) → OnOk r Q
on_ok (Ok x) P Q h k = k h
on_ok (Err e) P Q h k = h
