-- The findings of lines, one line after the other.
use Rattle.std.proofs.Common.{◌≡◌, refl, ◌∙◌, sym, ap, subst, ℕ, List, [], ◌∷◌, ◌++◌, append_assoc, append-nil, map, Option, Some, None, Bor, take, drop, suc, length, ◌<◌, ◌+◌, get_or, arith}
use Rattle.std.proofs.Math.Seq.{take-suc}
use Rattle.std.proofs.lemmas.List.{take-append-drop, map-append}
use Rattle.std.specs.Option.{option_map, option_and_then}
use Rattle.verdict_text.specs.declared.finding.Finding.{Finding}
use Rattle.verdict_text.specs.Told.{told_finding, told_findings, words_of}

joins : (a : Option Finding) (b rest tail : Option (List Finding)) (fs : List Finding)
    → option_and_then (λ f. option_map (λ gs. f ∷ gs) b) a ≡ Some fs
    → ((gs : List Finding) → b ≡ Some gs → rest ≡ option_map (λ hs. gs ++ hs) tail)
    → option_and_then (λ f. option_map (λ gs. f ∷ gs) rest) a ≡ option_map (λ hs. fs ++ hs) tail
joins None b rest tail fs h k = cc
joins (Some f) None rest tail fs h k = cc
joins (Some f) (Some gs) rest None fs h k = rw (k gs refl) refl
joins (Some f) (Some gs) rest (Some hs) fs h k =
    let same : f ∷ gs ≡ fs = cc in
    rw (k gs refl, sym same) refl

same_findings : (o : Option (List Finding)) → o ≡ option_map (λ hs. [] ++ hs) o
same_findings None = refl
same_findings (Some hs) = refl

-- behind lines that tell findings
pub told_behind : (xs ys : List (List ℕ)) (fs : List Finding) → told_findings xs ≡ Some fs
    → told_findings (xs ++ ys) ≡ option_map (λ hs. fs ++ hs) (told_findings ys)
told_behind [] ys [] h = same_findings (told_findings ys)
told_behind [] ys (f ∷ fs) h = cc
told_behind (x ∷ xs) ys fs h =
    joins (told_finding (words_of x)) (told_findings xs) (told_findings (xs ++ ys)) (told_findings ys) fs h (λ gs e. told_behind xs ys gs e)

-- one line more
pub told_next : (xs : List (List ℕ)) (y : List ℕ) (fs : List Finding) (f : Finding) → told_findings xs ≡ Some fs
    → told_finding (words_of y) ≡ Some f → told_findings (xs ++ y ∷ []) ≡ Some (fs ++ f ∷ [])
told_next xs y fs f h k = told_behind xs (y ∷ []) fs h ∙ rw k refl

-- a line that tells no finding
pub told_no_more : (xs : List (List ℕ)) (y : List ℕ) (ys : List (List ℕ)) (fs : List Finding) → told_findings xs ≡ Some fs
    → told_finding (words_of y) ≡ None → told_findings (xs ++ y ∷ ys) ≡ None
told_no_more xs y ys fs h k = told_behind xs (y ∷ ys) fs h ∙ rw k refl

-- at a place among lines
pub next_at : (ls : List (Bor (List ℕ))) (k : ℕ) (d : Bor (List ℕ)) (fs : List Finding) (f : Finding) → told_findings (map (λ l. l.now) (take k ls)) ≡ Some fs
    → k < length ls → told_finding (words_of (get_or ls k d).now) ≡ Some f → told_findings (map (λ l. l.now) (take (k + 1) ls)) ≡ Some (fs ++ f ∷ [])
next_at ls k d fs f h l e =
    let next : k + 1 ≡ suc k = omega arith in
    ap (λ n. told_findings (map (λ l. l.now) (take n ls))) next
    ∙ (ap (λ ws. told_findings (map (λ l. l.now) ws)) (take-suc ls k d l)
    ∙ (ap told_findings (map-append (λ l. l.now) (take k ls) (get_or ls k d ∷ []))
    ∙ told_next (map (λ l. l.now) (take k ls)) (get_or ls k d).now fs f h e))

pub no_more_at : (ls : List (Bor (List ℕ))) (k : ℕ) (d : Bor (List ℕ)) (fs : List Finding) → told_findings (map (λ l. l.now) (take k ls)) ≡ Some fs
    → k < length ls → told_finding (words_of (get_or ls k d).now) ≡ None → told_findings (map (λ l. l.now) ls) ≡ None
no_more_at ls k d fs h l e =
    let whole : map (λ l. l.now) ls ≡ map (λ l. l.now) (take k ls) ++ (get_or ls k d).now ∷ map (λ l. l.now) (drop (suc k) ls) =
    ap (map (λ l. l.now)) (sym (take-append-drop (suc k) ls) ∙ (ap (λ ws. ws ++ drop (suc k) ls) (take-suc ls k d l)
    ∙ append_assoc (take k ls) (get_or ls k d ∷ []) (drop (suc k) ls)))
    ∙ map-append (λ l. l.now) (take k ls) (get_or ls k d ∷ drop (suc k) ls) in
    ap told_findings whole ∙ told_no_more (map (λ l. l.now) (take k ls)) (get_or ls k d).now (map (λ l. l.now) (drop (suc k) ls)) fs h e
