-- The content of strings, a byte further.
use Rattle.std.proofs.Common.{◌≡◌, ℕ, zero, suc, ◌+◌, ◌<◌, ◌≤◌, Bool, true, false, List, [], ◌∷◌, ◌++◌, length, take, drop, length-drop, ◌-◌, get_or, refl, sym, ap, ◌∙◌, append_assoc, arith}
use Rattle.std.proofs.lemmas.List.{drop_more, take_all}
use Rattle.std.proofs.Math.Seq.{drop-nil}
use Rattle.std.proofs.Math.ListN.{drop_of_length-le}
use Rattle.liberty_tokens.specs.Names.{unjoined, joins_lines, shown_byte}

head_rest : (bs : List ℕ) → 0 < length bs → bs ≡ get_or bs 0 0 ∷ drop 1 bs
head_rest bs h = drop_more bs 0 0 h

pub joined_on : (bs : List ℕ) → 0 < length bs → unjoined true bs ≡ unjoined false (drop 1 bs)
joined_on bs h = ap (unjoined true) (head_rest bs h)

pub joins_on : (bs : List ℕ) → 0 < length bs → joins_lines bs ≡ true → unjoined false bs ≡ unjoined true (drop 1 bs)
joins_on bs h j = ap (unjoined false) (head_rest bs h) ∙ (let e = ap joins_lines (sym (head_rest bs h)) ∙ j in rw e refl)

pub shows_on : (bs : List ℕ) → 0 < length bs → joins_lines bs ≡ false → unjoined false bs ≡ shown_byte (get_or bs 0 0) ∷ unjoined false (drop 1 bs)
shows_on bs h j = ap (unjoined false) (head_rest bs h) ∙ (let e = ap joins_lines (sym (head_rest bs h)) ∙ j in rw e refl)

pub none_on : (bs : List ℕ) (at : ℕ) (j : Bool) → length bs ≤ at → unjoined j (drop at bs) ≡ []
none_on bs at true h = ap (unjoined true) (drop_of_length-le bs h)
none_on bs at false h = ap (unjoined false) (drop_of_length-le bs h)

pub more_shown : (xs ys : List ℕ) (b : ℕ) → (xs ++ b ∷ []) ++ ys ≡ xs ++ (b ∷ ys)
more_shown xs ys b = append_assoc xs (b ∷ []) ys

pub drop_one : (bs : List ℕ) (at : ℕ) → drop 1 (drop at bs) ≡ drop (at + 1) bs
drop_one [] at = ap (drop 1) (drop-nil at) ∙ drop-nil 1 ∙ sym (drop-nil (at + 1))
drop_one (b ∷ bs) zero = refl
drop_one (b ∷ bs) (suc n) = let e : suc n + 1 ≡ suc (n + 1) = omega arith in rw e (drop_one bs n)

pub tail_is : (bs : List ℕ) (at : ℕ) → take (length bs - at) (drop at bs) ≡ drop at bs
tail_is bs at = take_all (length bs - at) (drop at bs) (omega (arith, length-drop at bs))
