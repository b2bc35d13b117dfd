-- The code that a word is.
use Rattle.std.proofs.Common.{◌≡◌, ℕ, Bool, true, false, cond, List, [], ◌∷◌, Option, Some, None, find, refl, sym, subst}
use Rattle.std.proofs.lemmas.Slice.Eq.{bytes_eq-Decides}
use Rattle.verdict_text.specs.Block.{IsCode}
use Rattle.verdict_text.specs.Told.{is_code_word, told_code, all_codes}
use Rattle.verdict_text.specs.Words.{code_word}
use Rattle.verdict_text.specs.declared.finding.Code.{Code}
use Rattle.verdict_text.specs.declared.finding.Code.TheVariants.{P1, P2, P3, P4, H1, H2, H3, H4, H5, M1, M2, Z1, Z2}

found_passes : (p : Code → Bool) (cs : List Code) (c : Code) → find p cs ≡ Some c → p c ≡ true
found_passes p [] c e = absurd cc
found_passes p (x ∷ xs) c e = go (p x) refl (found_passes p xs c) e
  where
    go : (g : Bool) → p x ≡ g → (find p xs ≡ Some c → p c ≡ true) → cond g (Some x) (find p xs) ≡ Some c → p c ≡ true
    go true k later f = let same : x ≡ c = cc in subst (λ y. p y ≡ true) same k
    go false k later f = later f

code_back : (c : Code) → told_code (code_word c) ≡ Some c
code_back P1 = refl
code_back P2 = refl
code_back P3 = refl
code_back P4 = refl
code_back H1 = refl
code_back H2 = refl
code_back H3 = refl
code_back H4 = refl
code_back H5 = refl
code_back M1 = refl
code_back M2 = refl
code_back Z1 = refl
code_back Z2 = refl

is_word : (word : List ℕ) (c : Code) → told_code word ≡ Some c → code_word c ≡ word
is_word word c e = sym ((bytes_eq-Decides word (code_word c)).0 (found_passes (is_code_word word) all_codes c e))

-- what a word is told as is the code that it is
pub code_told : (word : List ℕ) (code : Option Code) → IsCode word code → told_code word ≡ code
code_told word (Some c) h = subst (λ w. told_code w ≡ Some c) h (code_back c)
code_told word None h = go (told_code word) refl
  where
    go : (code : Option Code) → told_code word ≡ code → told_code word ≡ None
    go None e = e
    go (Some c) e = absurd (h c (is_word word c e))
