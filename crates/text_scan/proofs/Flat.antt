-- No line ends in a word, nor among blanks.
use Rattle.std.proofs.Common.{◌≡◌, ℕ, zero, suc, ◌+◌, ◌-◌, ◌<◌, ◌≤◌, Bool, true, false, cond, ◌||◌, eqb, ltb, List, [], ◌∷◌, length, take, drop, refl, sym, ap, subst, ◌∙◌, arith}
use Rattle.std.proofs.lemmas.List.{length-take-le}
use Rattle.std.proofs.lemmas.Bool.{eqb-true}
use Rattle.text_scan.specs.declared.token.Kind.TheVariants.{Word, Str, Sign, Unfinished, LineEnd, End}
use Rattle.text_scan.specs.declared.token.Style.{Style}
use Rattle.text_scan.specs.declared.token.Style.TheVariants.{Liberty, Verilog, Lef, Words}
use Rattle.text_scan.specs.declared.token.Place.{Place}
use Rattle.text_scan.specs.declared.piece.Piece.{Piece}
use Rattle.text_scan.specs.declared.piece.Piece.TheVariants.{Passed, Shown}
use Rattle.text_scan.specs.Bytes.{until, begins_with, begins_with_pair, is_blank, is_space, is_liberty_byte, is_letter, is_digit, is_identifier_byte, is_number_byte}
use Rattle.text_scan.specs.Pieces.{string, comment, line_comment, word, liberty_piece, verilog_piece, lef_piece, words_piece, piece, ends_liberty_word, ends_run, begins_space}
use Rattle.text_scan.specs.Tokens.{after, tokens, before, over, size}
use Rattle.text_scan.specs.Jumps.{forward}
use Rattle.text_scan.proofs.Until.{until-le, not_true}
use Rattle.text_scan.proofs.Places.{after-flat_some}
use Rattle.text_scan.proofs.Size.{piece-fits}

choose : (P : Piece → Type 0) (c : Bool) (p q : Piece) → (c ≡ true → P p) → (c ≡ false → P q) → P (cond c p q)
choose P true p q h k = h refl
choose P false p q h k = k refl

-- a word of n bytes, of which the first is b, has no LF
abbrev pub NoLine : ℕ → List ℕ → Piece → Type 0
NoLine b bs (Passed n) = Unit {0}
NoLine b bs (Shown Word n) = (eqb b 10 ≡ false) × (until (begins_with 10) (take (n - 1) bs) ≡ n - 1)
NoLine b bs (Shown Str n) = Unit {0}
NoLine b bs (Shown Sign n) = Unit {0}
NoLine b bs (Shown Unfinished n) = Unit {0}
NoLine b bs (Shown LineEnd n) = Unit {0}
NoLine b bs (Shown End n) = Unit {0}

pub record IsFlat (b : ℕ) (bs : List ℕ) (p : Piece) : Type 0 where
  pub flat : NoLine b bs p

-- a test that an LF passes ends before it
run-flat : (test : List ℕ → Bool) → ((xs : List ℕ) → test (10 ∷ xs) ≡ true) → (bs : List ℕ) → until (begins_with 10) (take (until test bs) bs) ≡ until test bs
unfolding until begins_with
run-flat test stops [] = refl
run-flat test stops (b ∷ bs) = go (test (b ∷ bs)) refl (run-flat test stops bs)
  where
    away : test (b ∷ bs) ≡ false → eqb b 10 ≡ false
    away h = not_true (eqb b 10) (λ e. absurd (let same : b ≡ 10 = eqb-true b 10 e in let yes : test (b ∷ bs) ≡ true = ap (λ z. test (z ∷ bs)) same ∙ stops bs in cc))

    go : (g : Bool) → test (b ∷ bs) ≡ g → until (begins_with 10) (take (until test bs) bs) ≡ until test bs
        → until (begins_with 10) (take (cond g 0 (suc (until test bs))) (b ∷ bs)) ≡ cond g 0 (suc (until test bs))
    go true h again = refl
    go false h again = ap (λ z. cond z 0 (suc (until (begins_with 10) (take (until test bs) bs)))) (away h) ∙ ap suc again

pub flat-run : (test : List ℕ → Bool) → ((xs : List ℕ) → test (10 ∷ xs) ≡ true) → (xs : List ℕ) (p : Place) → 0 < until test xs → after p (take (until test xs) xs) ≡ forward (until test xs) p
flat-run test stops xs p some =
    let len : length (take (until test xs) xs) ≡ until test xs = length-take-le (until test xs) xs (until-le test xs) in
    after-flat_some (take (until test xs) xs) p (run-flat test stops xs ∙ sym len) (omega arith) ∙ ap (λ z. forward z p) len

word-flat : (test : List ℕ → Bool) → ((xs : List ℕ) → test (10 ∷ xs) ≡ true) → (b : ℕ) (bs : List ℕ) → eqb b 10 ≡ false → IsFlat b bs (word test bs)
unfolding word
word-flat test stops b bs e =
    let n : until test bs + 1 - 1 ≡ until test bs = omega arith in
    record { flat = (e, ap (λ z. until (begins_with 10) (take z bs)) n ∙ run-flat test stops bs ∙ sym n) }

or_false_right : (p q : Bool) → (p || q) ≡ false → q ≡ false
or_false_right true q h = absurd cc
or_false_right false q h = h

no_line : (b : ℕ) → is_space b ≡ false → eqb b 10 ≡ false
unfolding is_space
no_line b h = or_false_right (eqb b 32 || eqb b 9 || eqb b 13) (eqb b 10) h

string-flat : (b : ℕ) (bs : List ℕ) → IsFlat b bs (string bs)
unfolding string
string-flat b bs = choose (IsFlat b bs) (ltb (until (begins_with 34) bs) (length bs)) (Shown Str (until (begins_with 34) bs + 2)) (Shown Unfinished (until (begins_with 34) bs + 1)) (λ _. record { flat = tt }) (λ _. record { flat = tt })

comment-flat : (b : ℕ) (bs : List ℕ) → IsFlat b bs (comment bs)
unfolding comment
comment-flat b bs =
    let n = until (begins_with_pair 42 47) (drop 1 bs) in
    choose (IsFlat b bs) (ltb n (length (drop 1 bs))) (Passed (n + 4)) (Shown Unfinished (n + 2)) (λ _. record { flat = tt }) (λ _. record { flat = tt })

line_comment-flat : (b : ℕ) (bs : List ℕ) → IsFlat b bs (line_comment bs)
unfolding line_comment
line_comment-flat b bs = record { flat = tt }

liberty_stops : (xs : List ℕ) → ends_liberty_word (10 ∷ xs) ≡ true
unfolding ends_liberty_word is_liberty_byte
liberty_stops xs = refl

space_stops : (xs : List ℕ) → begins_space (10 ∷ xs) ≡ true
unfolding begins_space is_space
space_stops xs = refl

identifier_stops : (xs : List ℕ) → ends_run is_identifier_byte (10 ∷ xs) ≡ true
unfolding ends_run is_identifier_byte is_letter is_digit
identifier_stops xs = refl

number_stops : (xs : List ℕ) → ends_run is_number_byte (10 ∷ xs) ≡ true
unfolding ends_run is_number_byte is_letter is_digit
number_stops xs = refl

liberty-flat : (b : ℕ) (bs : List ℕ) → IsFlat b bs (liberty_piece b bs)
unfolding liberty_piece
liberty-flat b bs =
    let P = IsFlat b bs in
    choose P (is_blank b) _ _ (λ _. record { flat = tt }) (λ _.
    choose P (eqb b 10) _ _ (λ _. record { flat = tt }) (λ line.
    choose P (eqb b 34) _ _ (λ _. string-flat b bs) (λ _.
    choose P (begins_with_pair 47 42 (b ∷ bs)) _ _ (λ _. comment-flat b bs) (λ _.
    choose P (begins_with_pair 92 10 (b ∷ bs)) _ _ (λ _. record { flat = tt }) (λ _.
    choose P (is_liberty_byte b) _ _ (λ _. word-flat ends_liberty_word liberty_stops b bs line) (λ _. record { flat = tt }))))))

verilog-flat : (b : ℕ) (bs : List ℕ) → IsFlat b bs (verilog_piece b bs)
unfolding verilog_piece
verilog-flat b bs =
    let P = IsFlat b bs in
    choose P (is_space b) _ _ (λ _. record { flat = tt }) (λ space. let line = no_line b space in
    choose P (eqb b 34) _ _ (λ _. string-flat b bs) (λ _.
    choose P (begins_with_pair 47 42 (b ∷ bs)) _ _ (λ _. comment-flat b bs) (λ _.
    choose P (begins_with_pair 47 47 (b ∷ bs)) _ _ (λ _. line_comment-flat b bs) (λ _.
    choose P (eqb b 92) _ _ (λ _. word-flat begins_space space_stops b bs line) (λ _.
    choose P (is_letter b) _ _ (λ _. word-flat (ends_run is_identifier_byte) identifier_stops b bs line) (λ _.
    choose P (is_digit b) _ _ (λ _. word-flat (ends_run is_number_byte) number_stops b bs line) (λ _. record { flat = tt })))))))

lef-flat : (b : ℕ) (bs : List ℕ) → IsFlat b bs (lef_piece b bs)
unfolding lef_piece
lef-flat b bs =
    let P = IsFlat b bs in
    choose P (is_space b) _ _ (λ _. record { flat = tt }) (λ space.
    choose P (eqb b 35) _ _ (λ _. line_comment-flat b bs) (λ _.
    choose P (eqb b 34) _ _ (λ _. string-flat b bs) (λ _. word-flat begins_space space_stops b bs (no_line b space))))

words-flat : (b : ℕ) (bs : List ℕ) → IsFlat b bs (words_piece b bs)
unfolding words_piece
words-flat b bs =
    let P = IsFlat b bs in
    choose P (is_blank b) _ _ (λ _. record { flat = tt }) (λ _.
    choose P (eqb b 10) _ _ (λ _. record { flat = tt }) (λ line. word-flat begins_space space_stops b bs line))

piece-flat : (style : Style) (b : ℕ) (bs : List ℕ) → IsFlat b bs (piece style b bs)
unfolding piece
piece-flat Liberty b bs = liberty-flat b bs
piece-flat Verilog b bs = verilog-flat b bs
piece-flat Lef b bs = lef-flat b bs
piece-flat Words b bs = words-flat b bs

flat-from : (b : ℕ) (bs : List ℕ) (m : ℕ) (p : Place) → m ≤ length bs → eqb b 10 ≡ false → until (begins_with 10) (take m bs) ≡ m → after p (b ∷ take m bs) ≡ forward (suc m) p
unfolding until begins_with
flat-from b bs m p le line rest =
    let len : length (take m bs) ≡ m = length-take-le m bs le in
    after-flat_some (b ∷ take m bs) p (ap (λ z. cond z 0 (suc (until (begins_with 10) (take m bs)))) line ∙ ap suc (rest ∙ sym len)) (omega arith) ∙ ap (λ z. forward (suc z) p) len

-- after a word
pub after_word : (style : Style) (b : ℕ) (bs : List ℕ) (n : ℕ) (p : Place) → Shown Word n ≡ piece style b bs → after p (take n (b ∷ bs)) ≡ forward n p
after_word style b bs n p is = go n is
  where
    go : (n : ℕ) → Shown Word n ≡ piece style b bs → after p (take n (b ∷ bs)) ≡ forward n p
    go zero is = absurd (let h = (piece-fits style b bs).some in let z : 0 ≡ size (piece style b bs) = ap size is in omega arith)
    go (suc m) is =
        let within = (piece-fits style b bs).within in
        let z : suc m ≡ size (piece style b bs) = ap size is in
        let k : suc m - 1 ≡ m = omega arith in
        let flat : IsFlat b bs (Shown Word (suc m)) = subst (IsFlat b bs) (sym is) (piece-flat style b bs) in
        flat-from b bs m p (omega arith) flat.flat.0 (sym (ap (λ z. until (begins_with 10) (take z bs)) k) ∙ flat.flat.1 ∙ k)

-- ---- blanks

or_left : (p q : Bool) → p ≡ true → (p || q) ≡ true
or_left true q h = refl
or_left false q h = absurd cc

first : (c : Bool) (p q : Piece) → c ≡ true → cond c p q ≡ p
first true p q h = refl
first false p q h = absurd cc

pub blank_passes : (style : Style) (b : ℕ) (bs : List ℕ) → is_blank b ≡ true → piece style b bs ≡ Passed 1
unfolding piece liberty_piece verilog_piece lef_piece words_piece is_blank is_space
blank_passes Liberty b bs h = first (eqb b 32 || eqb b 9 || eqb b 13) (Passed 1) _ h
blank_passes Verilog b bs h = first (eqb b 32 || eqb b 9 || eqb b 13 || eqb b 10) (Passed 1) _ (or_left (eqb b 32 || eqb b 9 || eqb b 13) (eqb b 10) h)
blank_passes Lef b bs h = first (eqb b 32 || eqb b 9 || eqb b 13 || eqb b 10) (Passed 1) _ (or_left (eqb b 32 || eqb b 9 || eqb b 13) (eqb b 10) h)
blank_passes Words b bs h = first (eqb b 32 || eqb b 9 || eqb b 13) (Passed 1) _ h

-- a run of blanks belongs to no token
pub blanks_pass : (style : Style) (p : Place) (xs : List ℕ)
    → tokens style p 0 xs ≡ tokens style (after p (take (until (ends_run is_blank) xs) xs)) 0 (drop (until (ends_run is_blank) xs) xs)
unfolding tokens until ends_run after before
blanks_pass style p [] = refl
blanks_pass style p (b ∷ bs) = go (is_blank b) refl (blanks_pass style (over b p) bs)
  where
    go : (g : Bool) → is_blank b ≡ g → tokens style (over b p) 0 bs ≡ tokens style (after (over b p) (take (until (ends_run is_blank) bs) bs)) 0 (drop (until (ends_run is_blank) bs) bs)
        → before (piece style b bs) p (tokens style (over b p) (size (piece style b bs) - 1) bs)
        ≡ tokens style (after p (take (cond (cond g false true) 0 (suc (until (ends_run is_blank) bs))) (b ∷ bs))) 0 (drop (cond (cond g false true) 0 (suc (until (ends_run is_blank) bs))) (b ∷ bs))
    go true h again = ap (λ z. before z p (tokens style (over b p) (size z - 1) bs)) (blank_passes style b bs h) ∙ again
    go false h again = refl
