-- The words of lines are tokens.
use Rattle.std.proofs.Common.{◌≡◌, ◌≤◌, ◌+◌, ◌-◌, ℕ, zero, suc, Bool, true, false, List, [], ◌∷◌, ◌++◌, length, take, drop, min, refl, sym, ap, ◌∙◌, arith}
use Rattle.std.specs.Prelude.{◌==◌, ◌||◌}
use Rattle.text_scan.specs.Bytes.{until, begins_with, is_space, is_blank}
use Rattle.text_scan.specs.Pieces.{piece, words_piece, word, begins_space}
use Rattle.text_scan.specs.Tokens.{tokens, tokens_of, token, over, before, start}
use Rattle.text_scan.specs.declared.token.Style.TheVariants.{Words}
use Rattle.text_scan.specs.declared.token.Place.{Place}
use Rattle.cdl_cards.specs.Lines.{lines, next_line, after_line}
use Rattle.cdl_cards.specs.Words.{PlacedWord, words, column_of}
use Rattle.cdl_cards.specs.Tokens.{words_of_lines, placed_words, WordsAreTokens}
use Rattle.cdl_cards.proofs.LineEnds.{line_is}

-- the rest of a line
first : List ℕ → List ℕ
first bs = take (until (begins_with 10) bs) bs

-- the words of the text that is left of a line of this number and wide, the first so many bytes of which are in a word
words_left : ℕ → ℕ → ℕ → List ℕ → List PlacedWord
words_left number wide inside bs = words number wide inside (first bs) ++ words_of_lines (next_line number) (lines (after_line bs))

-- the place p is before these bytes, which are left of a line of this wide
record Stands (text : List ℕ) (p : Place) (wide : ℕ) (bs : List ℕ) : Type 0 where
  rest : drop p.at text ≡ bs
  column : p.column ≡ column_of wide (length (first bs))
  short : length (first bs) ≤ wide

-- ---- lines

whole_line : (number : ℕ) (bs : List ℕ) → words_left number (length (first bs)) 0 bs ≡ words_of_lines number (lines bs)
unfolding words_left words_of_lines first until lines words
whole_line number [] = refl
whole_line number (b ∷ bs) = rw (line_is (b ∷ bs) (omega arith)) refl

module _ (b : ℕ) (bs : List ℕ) where
  ended : (b == 10) ≡ true → first (b ∷ bs) ≡ []
  unfolding first until begins_with
  ended h = rw h refl

  ended_after : (b == 10) ≡ true → after_line (b ∷ bs) ≡ bs
  unfolding until begins_with
  ended_after h = rw h refl

  goes_on : (b == 10) ≡ false → first (b ∷ bs) ≡ b ∷ first bs
  unfolding first until begins_with
  goes_on h = rw h refl

  goes_on_after : (b == 10) ≡ false → after_line (b ∷ bs) ≡ after_line bs
  unfolding until begins_with
  goes_on_after h = rw h refl

-- ---- places

one_dropped : (text : List ℕ) (n b : ℕ) (bs : List ℕ) → drop n text ≡ b ∷ bs → drop (suc n) text ≡ bs
one_dropped [] zero b bs h = absurd cc
one_dropped [] (suc n) b bs h = absurd cc
one_dropped (c ∷ text) zero b bs h = cc
one_dropped (c ∷ text) (suc n) b bs h = one_dropped text n b bs h

next_at : (text : List ℕ) (n b : ℕ) (bs : List ℕ) → drop n text ≡ b ∷ bs → drop (n + 1) text ≡ bs
next_at text n b bs h = let e : n + 1 ≡ suc n = omega arith in rw e (one_dropped text n b bs h)

goes_over : (b : ℕ) (p : Place) → (b == 10) ≡ false
    → over b p ≡ record { at = p.at + 1; line = p.line; column = min (p.column + 1) 4294967295 }
unfolding over
goes_over b p h = rw h refl

next_column : (wide left column : ℕ) → suc left ≤ wide → column ≡ column_of wide (suc left)
    → min (column + 1) 4294967295 ≡ column_of wide left
next_column wide left column h e = rw e (omega (arith, h))

-- ---- bytes

first_column : (n : ℕ) → 1 ≡ column_of n n
first_column n = let e : n - n ≡ 0 = omega arith in rw e refl

space_blank : (x y z w : Bool) → (x || y || z) ≡ true → (x || y || z || w) ≡ true
space_blank true y z w h = refl
space_blank false true z w h = refl
space_blank false false true w h = refl
space_blank false false false w h = absurd cc

no_space : (x y z w : Bool) → (x || y || z) ≡ false → w ≡ false → (x || y || z || w) ≡ false
no_space true y z w h k = absurd cc
no_space false true z w h k = absurd cc
no_space false false true w h k = absurd cc
no_space false false false w h k = k

blank_is_space : (b : ℕ) → is_blank b ≡ true → is_space b ≡ true
unfolding is_blank is_space
blank_is_space b h = space_blank (b == 32) (b == 9) (b == 13) (b == 10) h

graphic_no_space : (b : ℕ) → is_blank b ≡ false → (b == 10) ≡ false → is_space b ≡ false
unfolding is_blank is_space
graphic_no_space b h k = no_space (b == 32) (b == 9) (b == 13) (b == 10) h k

line_end_is_space : (b : ℕ) → (b == 10) ≡ true → is_space b ≡ true
unfolding is_space
line_end_is_space b h = let e : b ≡ 10 = grind (arith, h) in rw e refl

-- a word ends with its line
word_in_line : (bs : List ℕ) → until begins_space (first bs) ≡ until begins_space bs
unfolding until begins_space first begins_with
word_in_line [] = refl
word_in_line (b ∷ bs) = go (b == 10) refl (word_in_line bs)
  where
    go : (g : Bool) → (b == 10) ≡ g → until begins_space (first bs) ≡ until begins_space bs
        → until begins_space (first (b ∷ bs)) ≡ until begins_space (b ∷ bs)
    go true h e = rw (ended b bs h, line_end_is_space b h) refl
    go false h e = rw (goes_on b bs h, e) refl

word_short : (bs : List ℕ) → until begins_space bs ≤ length (first bs)
unfolding until begins_space first begins_with
word_short [] = omega arith
word_short (b ∷ bs) = go (b == 10) refl (is_space b) refl (word_short bs)
  where
    go : (g : Bool) → (b == 10) ≡ g → (s : Bool) → is_space b ≡ s → until begins_space bs ≤ length (first bs)
        → until begins_space (b ∷ bs) ≤ length (first (b ∷ bs))
    go g h true k e = rw k (omega arith)
    go true h false k e = absurd (let x = line_end_is_space b h in cc)
    go false h false k e = rw (goes_on b bs h, k) (omega (arith, e))

taken_in_line : (n : ℕ) (bs : List ℕ) → n ≤ length (first bs) → take n (first bs) ≡ take n bs
unfolding first until begins_with
taken_in_line zero bs h = refl
taken_in_line (suc n) [] h = refl
taken_in_line (suc n) (b ∷ bs) h = go (b == 10) refl (taken_in_line n bs) h
  where
    go : (g : Bool) → (b == 10) ≡ g → (n ≤ length (first bs) → take n (first bs)
        ≡ take n bs) → suc n ≤ length (first (b ∷ bs)) → take (suc n) (first (b ∷ bs)) ≡ take (suc n) (b ∷ bs)
    go true k e l = absurd (let x : length (first (b ∷ bs)) ≡ 0 = rw (ended b bs k) refl in omega (arith, l, x))
    go false k e l = let x : length (first (b ∷ bs)) ≡ suc (length (first bs)) = rw (goes_on b bs k) refl in
        rw (goes_on b bs k, e (omega (arith, l, x))) refl

-- ---- a byte further

module _ (text : List ℕ) (p : Place) (wide : ℕ) (b : ℕ) (bs : List ℕ) (s : Stands text p wide (b ∷ bs))
    (more : (q : Place) (n inside : ℕ) → Stands text q n bs → inside ≤ length (first bs)
    → placed_words text (tokens Words q inside bs) ≡ words_left q.line n inside bs) where
  line_ends : (b == 10) ≡ true → placed_words text (tokens Words p 0 (b ∷ bs)) ≡ words_left p.line wide 0 (b ∷ bs)
  unfolding tokens piece words_piece is_blank before over token placed_words words_left words
  line_ends h =
      let e : b ≡ 10 = grind (arith, h) in
      let q : Place = record { at = p.at + 1; line = next_line p.line; column = 1 } in
      let stands : Stands text q (length (first bs)) bs =
      record { rest = next_at text p.at b bs s.rest; column = first_column (length (first bs)); short = omega arith } in
      let here : placed_words text (tokens Words q 0 bs) ≡ words_of_lines (next_line p.line) (lines bs)
      = more q (length (first bs)) 0 stands (omega arith) ∙ whole_line (next_line p.line) bs in
      rw (ended b bs h, ended_after b bs h, e) here

  module _ (k : (b == 10) ≡ false) where
    q : Place
    q = record { at = p.at + 1; line = p.line; column = min (p.column + 1) 4294967295 }

    left : length (first (b ∷ bs)) ≡ suc (length (first bs))
    left = rw (goes_on b bs k) refl

    stands : Stands text q wide bs
    unfolding q
    stands =
        let l = left in
        let m = s.short in
        let column = next_column wide (length (first bs)) p.column (omega (arith, l, m)) (s.column ∙ ap (column_of wide) l) in
        record { rest = next_at text p.at b bs s.rest; column = column; short = omega (arith, l, m) }

    in_word : (i : ℕ) → suc i ≤ length (first (b ∷ bs))
        → placed_words text (tokens Words p (suc i) (b ∷ bs)) ≡ words_left p.line wide (suc i) (b ∷ bs)
    unfolding tokens words_left words q
    in_word i h = let l = left in rw (goes_over b p k, goes_on b bs k, goes_on_after b bs k) (more q wide i stands (omega (arith, l, h)))

    blank : is_blank b ≡ true → placed_words text (tokens Words p 0 (b ∷ bs)) ≡ words_left p.line wide 0 (b ∷ bs)
    unfolding tokens piece words_piece before words_left words q
    blank h = rw (h, goes_over b p k, goes_on b bs k, goes_on_after b bs k, blank_is_space b h) (more q wide 0 stands (omega arith))

    new_word : is_blank b ≡ false → placed_words text (tokens Words p 0 (b ∷ bs)) ≡ words_left p.line wide 0 (b ∷ bs)
    unfolding tokens piece words_piece word before token placed_words words_left words q
    new_word h =
        let n = until begins_space bs in
        let same : until begins_space (first bs) ≡ n = word_in_line bs in
        let rest : placed_words text (tokens Words q n bs) ≡ words_left p.line wide n bs = more q wide n stands (word_short bs) in
        let bytes : take (p.at + (n + 1) - p.at) (drop p.at text) ≡ take (suc n) (b ∷ first bs) =
        let e : p.at + (n + 1) - p.at ≡ suc n = omega arith in
        rw (e, s.rest) (ap (λ w. b ∷ w) (sym (taken_in_line n bs (word_short bs)))) in
        let one : n + 1 - 1 ≡ n = omega arith in
        let column : p.column ≡ column_of wide (length (b ∷ first bs))
        = s.column ∙ ap (λ line. column_of wide (length line)) (goes_on b bs k) in
        rw (h, k, goes_over b p k, goes_on b bs k, goes_on_after b bs k, graphic_no_space b h k, same, one, rest, bytes, column) refl

    not_at_end : (inside : ℕ) → inside ≤ length (first (b ∷ bs))
        → placed_words text (tokens Words p inside (b ∷ bs)) ≡ words_left p.line wide inside (b ∷ bs)
    not_at_end (suc i) h = in_word i h
    not_at_end zero h = go (is_blank b) refl
      where
        go : (g : Bool) → is_blank b ≡ g → placed_words text (tokens Words p 0 (b ∷ bs)) ≡ words_left p.line wide 0 (b ∷ bs)
        go true e = blank e
        go false e = new_word e

  one_more : (g : Bool) → (b == 10) ≡ g → (inside : ℕ) → inside ≤ length (first (b ∷ bs))
      → placed_words text (tokens Words p inside (b ∷ bs)) ≡ words_left p.line wide inside (b ∷ bs)
  one_more true e zero h = line_ends e
  one_more true e (suc i) h = absurd (let x : length (first (b ∷ bs)) ≡ 0 = rw (ended b bs e) refl in omega (arith, h, x))
  one_more false e inside h = not_at_end e inside h

all_words : (text : List ℕ) (p : Place) (wide inside : ℕ) (bs : List ℕ) → Stands text p wide bs → inside ≤ length (first bs)
    → placed_words text (tokens Words p inside bs) ≡ words_left p.line wide inside bs
unfolding tokens words_left words placed_words lines words_of_lines first until token
all_words text p wide inside [] s h = refl
all_words text p wide inside (b ∷ bs) s h =
    one_more text p wide b bs s (λ q n i t l. all_words text q n i bs t l) (b == 10) refl inside h

pub text_words : (text : List ℕ) → WordsAreTokens text
unfolding tokens_of
text_words text =
    let stands : Stands text start (length (first text)) text =
    record { rest = refl; column = first_column (length (first text)); short = omega arith } in
    sym (all_words text start (length (first text)) 0 text stands (omega arith) ∙ whole_line 1 text)
