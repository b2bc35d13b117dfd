-- Where a line ends.
use Rattle.std.proofs.Common.{◌≡◌, ◌≤◌, ◌<◌, ℕ, suc, Bool, true, false, cond, List, [], ◌∷◌, length, take, drop, length-drop, refl, sym, ◌∙◌, arith, eqb}
use Rattle.std.specs.Prelude.{◌==◌}
use Rattle.std.proofs.lemmas.List.{length-take-le}
use Rattle.std.proofs.Math.ListN.{drop_of_length-le}
use Rattle.text_scan.specs.Bytes.{until, begins_with}
use Rattle.cdl_cards.specs.Lines.{lines, grown, after_line}

-- behind a line that ends with the text there is nothing
pub after_last : (text : List ℕ) (size n : ℕ) → size ≡ until (begins_with 10) text → length text ≤ size → length text ≤ n → drop n text ≡ after_line text
after_last text size n e h k = drop_of_length-le text k ∙ sym (drop_of_length-le text (let low : length text ≤ suc (until (begins_with 10) text) = omega arith in low))

grow_first : (b : ℕ) (text line : List ℕ) (rest : List (List ℕ)) → lines text ≡ line ∷ rest → grown b (lines text) ≡ (b ∷ line) ∷ rest
grow_first b text line rest e = rw e refl

-- the first line, and those after it
pub first_line : (b : ℕ) (bs : List ℕ) → lines (b ∷ bs) ≡ take (until (begins_with 10) (b ∷ bs)) (b ∷ bs) ∷ lines (after_line (b ∷ bs))
unfolding lines until begins_with
first_line b [] = go (eqb b 10)
  where
    go : (g : Bool) → cond g ([] ∷ []) ((b ∷ []) ∷ []) ≡ take (cond g 0 1) (b ∷ []) ∷ lines (drop (suc (cond g 0 1)) (b ∷ []))
    go true = refl
    go false = refl
first_line b (c ∷ cs) = go (eqb b 10) (first_line c cs)
  where
    go : (g : Bool) → lines (c ∷ cs) ≡ take (until (begins_with 10) (c ∷ cs)) (c ∷ cs) ∷ lines (after_line (c ∷ cs))
        → cond g ([] ∷ lines (c ∷ cs)) (grown b (lines (c ∷ cs))) ≡ take (cond g 0 (suc (until (begins_with 10) (c ∷ cs)))) (b ∷ c ∷ cs) ∷ lines (drop (suc (cond g 0 (suc (until (begins_with 10) (c ∷ cs))))) (b ∷ c ∷ cs))
    go true h = refl
    go false h = grow_first b (c ∷ cs) _ _ h

pub line_is : (text : List ℕ) → 0 < length text → lines text ≡ take (until (begins_with 10) text) text ∷ lines (after_line text)
line_is [] h = absurd (omega arith)
line_is (b ∷ bs) h = first_line b bs

pub line_at : (text rest : List ℕ) (size : ℕ) → 0 < length text → size ≡ until (begins_with 10) text → rest ≡ after_line text → lines text ≡ take size text ∷ lines rest
line_at text rest size h e f = rw (e, f) (line_is text h)

pub no_line : (text : List ℕ) → (length text == 0) ≡ true → lines text ≡ []
unfolding lines
no_line [] h = refl
no_line (b ∷ bs) h = absurd (grind arith)

pub has_line : (text : List ℕ) → (length text == 0) ≡ false → 0 < length text
has_line [] h = absurd cc
has_line (b ∷ bs) h = omega arith

pub line_size : (text : List ℕ) (size : ℕ) → size ≤ length text → size ≡ length (take size text)
line_size text size h = sym (length-take-le size text h)

pub is_shorter : (text rest : List ℕ) → 0 < length text → rest ≡ after_line text → length rest < length text
is_shorter text rest h e = rw e (let k = length-drop (suc (until (begins_with 10) text)) text in omega (arith, k))
