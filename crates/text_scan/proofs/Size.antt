-- A piece has at least one byte, and lies in the text.
use Rattle.std.proofs.Common.{◌≡◌, ℕ, suc, ◌+◌, ◌<◌, ◌≤◌, Bool, true, false, cond, ◌&&◌, eqb, ltb, List, [], ◌∷◌, length, drop, length-drop, refl, ap, arith}
use Rattle.std.proofs.lemmas.Bool.{ltb-true}
use Rattle.text_scan.specs.declared.token.Style.{Style}
use Rattle.text_scan.specs.declared.token.Style.TheVariants.{Liberty, Verilog, Lef, Words}
use Rattle.text_scan.specs.declared.piece.Piece.{Piece}
use Rattle.text_scan.specs.Bytes.{until, begins_with, begins_with_pair, is_blank, is_space, is_liberty_byte, is_letter, is_digit, is_identifier_byte, is_number_byte}
use Rattle.text_scan.specs.Pieces.{string, comment, line_comment, word, liberty_piece, verilog_piece, lef_piece, words_piece, piece, ends_liberty_word, ends_run, begins_space}
use Rattle.text_scan.specs.declared.piece.Piece.TheVariants.{Passed, Shown}
use Rattle.text_scan.specs.Tokens.{size}
use Rattle.text_scan.specs.Left.{is_end}
use Rattle.text_scan.proofs.Until.{until-le}

-- no piece is the end of a text
abbrev pub ends : Piece → Bool
ends (Passed n) = false
ends (Shown kind n) = is_end kind

-- a piece of a text of n + 1 bytes
pub record Fits (p : Piece) (n : ℕ) : Type 0 where
  pub some : 0 < size p
  pub within : size p ≤ suc n
  pub no_end : ends p ≡ false

choice : (n : ℕ) (b : Bool) (p q : Piece) → (b ≡ true → Fits p n) → Fits q n → Fits (cond b p q) n
choice n true p q h k = h refl
choice n false p q h k = k

string-fits : (bs : List ℕ) → Fits (string bs) (length bs)
unfolding string
string-fits bs = choice (length bs) (ltb (until (begins_with 34) bs) (length bs)) _ _
    (λ e. let less = ltb-true _ _ e in record { some = omega arith; within = omega arith; no_end = refl })
    (let le = until-le (begins_with 34) bs in record { some = omega arith; within = omega arith; no_end = refl })

pair-some : (c d b : ℕ) (bs : List ℕ) → begins_with_pair c d (b ∷ bs) ≡ true → 1 ≤ length bs
unfolding begins_with begins_with_pair
pair-some c d b [] h = go (eqb b c) h
  where
    go : (g : Bool) → (g && false) ≡ true → 1 ≤ 0
    go true h = absurd cc
    go false h = absurd cc
pair-some c d b (x ∷ xs) h = omega arith

pair-room : (c d : ℕ) (bs : List ℕ) → until (begins_with_pair c d) bs < length bs → until (begins_with_pair c d) bs + 2 ≤ length bs
unfolding until
pair-room c d [] h = absurd (omega arith)
pair-room c d (b ∷ bs) h = go (begins_with_pair c d (b ∷ bs)) refl (pair-room c d bs) h
  where
    go : (g : Bool) → begins_with_pair c d (b ∷ bs) ≡ g → (until (begins_with_pair c d) bs < length bs → until (begins_with_pair c d) bs + 2 ≤ length bs)
        → cond g 0 (suc (until (begins_with_pair c d) bs)) < suc (length bs) → cond g 0 (suc (until (begins_with_pair c d) bs)) + 2 ≤ suc (length bs)
    go true e again h = let one = pair-some c d b bs e in omega arith
    go false e again h = let more = again (omega arith) in omega arith

comment-fits : (bs : List ℕ) → 1 ≤ length bs → Fits (comment bs) (length bs)
unfolding comment
comment-fits bs h =
    let len = length-drop 1 bs in
    choice (length bs) (ltb (until (begins_with_pair 42 47) (drop 1 bs)) (length (drop 1 bs))) _ _
    (λ e. let less = pair-room 42 47 (drop 1 bs) (ltb-true _ _ e) in record { some = omega arith; within = omega arith; no_end = refl })
    (let le = until-le (begins_with_pair 42 47) (drop 1 bs) in record { some = omega arith; within = omega arith; no_end = refl })

line_comment-fits : (bs : List ℕ) → Fits (line_comment bs) (length bs)
unfolding line_comment
line_comment-fits bs = let le = until-le (begins_with 10) bs in record { some = omega arith; within = omega arith; no_end = refl }

word-fits : (test : List ℕ → Bool) (bs : List ℕ) → Fits (word test bs) (length bs)
unfolding word
word-fits test bs = let le = until-le test bs in record { some = omega arith; within = omega arith; no_end = refl }

one : (n : ℕ) (p : Piece) → size p ≡ 1 → ends p ≡ false → Fits p n
one n p e k = record { some = omega arith; within = omega arith; no_end = k }

liberty_piece-fits : (b : ℕ) (bs : List ℕ) → Fits (liberty_piece b bs) (length bs)
unfolding liberty_piece
liberty_piece-fits b bs =
    let n = length bs in
    choice n (is_blank b) _ _ (λ _. one n _ refl refl)
    (choice n (eqb b 10) _ _ (λ _. one n _ refl refl)
    (choice n (eqb b 34) _ _ (λ _. string-fits bs)
    (choice n (begins_with_pair 47 42 (b ∷ bs)) _ _ (λ e. comment-fits bs (pair-some 47 42 b bs e))
    (choice n (begins_with_pair 92 10 (b ∷ bs)) _ _ (λ e. let two = pair-some 92 10 b bs e in record { some = omega arith; within = omega arith; no_end = refl })
    (choice n (is_liberty_byte b) _ _ (λ _. word-fits ends_liberty_word bs)
    (one n _ refl refl))))))

verilog_piece-fits : (b : ℕ) (bs : List ℕ) → Fits (verilog_piece b bs) (length bs)
unfolding verilog_piece
verilog_piece-fits b bs =
    let n = length bs in
    choice n (is_space b) _ _ (λ _. one n _ refl refl)
    (choice n (eqb b 34) _ _ (λ _. string-fits bs)
    (choice n (begins_with_pair 47 42 (b ∷ bs)) _ _ (λ e. comment-fits bs (pair-some 47 42 b bs e))
    (choice n (begins_with_pair 47 47 (b ∷ bs)) _ _ (λ _. line_comment-fits bs)
    (choice n (eqb b 92) _ _ (λ _. word-fits begins_space bs)
    (choice n (is_letter b) _ _ (λ _. word-fits (ends_run is_identifier_byte) bs)
    (choice n (is_digit b) _ _ (λ _. word-fits (ends_run is_number_byte) bs)
    (one n _ refl refl)))))))

lef_piece-fits : (b : ℕ) (bs : List ℕ) → Fits (lef_piece b bs) (length bs)
unfolding lef_piece
lef_piece-fits b bs =
    let n = length bs in
    choice n (is_space b) _ _ (λ _. one n _ refl refl)
    (choice n (eqb b 35) _ _ (λ _. line_comment-fits bs)
    (choice n (eqb b 34) _ _ (λ _. string-fits bs)
    (word-fits begins_space bs)))

words_piece-fits : (b : ℕ) (bs : List ℕ) → Fits (words_piece b bs) (length bs)
unfolding words_piece
words_piece-fits b bs =
    let n = length bs in
    choice n (is_blank b) _ _ (λ _. one n _ refl refl)
    (choice n (eqb b 10) _ _ (λ _. one n _ refl refl)
    (word-fits begins_space bs))

pub piece-fits : (style : Style) (b : ℕ) (bs : List ℕ) → Fits (piece style b bs) (length bs)
unfolding piece
piece-fits Liberty b bs = liberty_piece-fits b bs
piece-fits Verilog b bs = verilog_piece-fits b bs
piece-fits Lef b bs = lef_piece-fits b bs
piece-fits Words b bs = words_piece-fits b bs

pub piece_some : (style : Style) (b : ℕ) (bs : List ℕ) → 0 < size (piece style b bs)
piece_some style b bs = (piece-fits style b bs).some

pub piece_within : (style : Style) (b : ℕ) (bs text : List ℕ) → text ≡ b ∷ bs → size (piece style b bs) ≤ length text
piece_within style b bs text e = let h = (piece-fits style b bs).within in omega (arith, ap length e)
