-- Firm pieces stay, whatever follows.
use Rattle.std.proofs.Common.{◌≡◌, ℕ, zero, suc, ◌+◌, ◌-◌, ◌<◌, ◌≤◌, Bool, true, false, cond, ◌||◌, ◌&&◌, inl, inr, eqb, ltb, List, [], ◌∷◌, ◌++◌, length, length-append, length-drop, drop, refl, sym, ap, subst, ◌∙◌, arith}
use Rattle.std.proofs.lemmas.Bool.{ltb-true, lt-ltb, eqb-true, cases_lt}
use Rattle.text_scan.specs.declared.token.Kind.TheVariants.{Word, Str, Sign, Unfinished, LineEnd, End}
use Rattle.text_scan.specs.declared.token.Style.{Style}
use Rattle.text_scan.specs.declared.token.Style.TheVariants.{Liberty, Verilog, Lef, Words}
use Rattle.text_scan.specs.declared.token.Place.{Place}
use Rattle.text_scan.specs.declared.token.Token.{Token}
use Rattle.text_scan.specs.declared.piece.Piece.{Piece}
use Rattle.text_scan.specs.declared.piece.Piece.TheVariants.{Passed, Shown}
use Rattle.text_scan.specs.Bytes.{until, begins_with, begins_with_pair, is_blank, is_space, is_liberty_byte, is_liberty_sign, is_letter, is_digit, is_identifier_byte, is_number_byte}
use Rattle.text_scan.specs.Pieces.{string, comment, line_comment, word, liberty_piece, verilog_piece, lef_piece, words_piece, piece, ends_liberty_word, ends_run, begins_space}
use Rattle.text_scan.specs.Tokens.{size, over, after, before, tokens, token}
use Rattle.text_scan.specs.Firm.{is_firm, needs_no_look, firm, open_place, open_bytes}
use Rattle.text_scan.proofs.Until.{not_true}
use Rattle.text_scan.proofs.Size.{piece-fits}

-- a test that looks at two bytes at most, and that a byte more cannot undo where there is one
pub record LooksAtTwo (test : List ℕ → Bool) : Type 0 where
  pub two : (x y : ℕ) (xs more : List ℕ) → test (x ∷ y ∷ (xs ++ more)) ≡ test (x ∷ y ∷ xs)
  pub stays : (x : ℕ) (more : List ℕ) → test (x ∷ []) ≡ true → test (x ∷ more) ≡ true

until-more : (test : List ℕ → Bool) → LooksAtTwo test → (xs more : List ℕ) → until test xs < length xs → until test (xs ++ more) ≡ until test xs
unfolding until
until-more test l [] more h = absurd (omega arith)
until-more test l (x ∷ []) more h = go (test (x ∷ [])) refl h
  where
    go : (g : Bool) → test (x ∷ []) ≡ g → cond g 0 1 < 1 → cond (test (x ∷ more)) 0 (suc (until test more)) ≡ cond g 0 1
    go true e h = ap (λ z. cond z 0 (suc (until test more))) (l.stays x more e)
    go false e h = absurd (omega arith)
until-more test l (x ∷ y ∷ zs) more h = ap (λ z. cond z 0 (suc (until test (y ∷ (zs ++ more))))) (l.two x y zs more) ∙ go (test (x ∷ y ∷ zs)) h (until-more test l (y ∷ zs) more)
  where
    go : (g : Bool) → cond g 0 (suc (until test (y ∷ zs))) < suc (suc (length zs)) → (until test (y ∷ zs) < suc (length zs) → until test (y ∷ (zs ++ more)) ≡ until test (y ∷ zs))
        → cond g 0 (suc (until test (y ∷ (zs ++ more)))) ≡ cond g 0 (suc (until test (y ∷ zs)))
    go true h again = refl
    go false h again = ap suc (again (omega arith))

byte_looks : (c : ℕ) → LooksAtTwo (begins_with c)
unfolding begins_with
byte_looks c = record { two = λ x y xs more. refl; stays = λ x more h. h }

pair_looks : (c d : ℕ) → LooksAtTwo (begins_with_pair c d)
unfolding begins_with_pair begins_with
pair_looks c d = record { two = λ x y xs more. refl; stays = λ x more h. absurd (go (eqb x c) h) }
  where
    go : (g : Bool) → (g && false) ≡ true → ⊥
    go true h = absurd cc
    go false h = absurd cc

run_looks : (test : ℕ → Bool) → LooksAtTwo (ends_run test)
unfolding ends_run
run_looks test = record { two = λ x y xs more. refl; stays = λ x more h. h }

space_looks : LooksAtTwo begins_space
unfolding begins_space
space_looks = record { two = λ x y xs more. refl; stays = λ x more h. h }

liberty_looks : LooksAtTwo ends_liberty_word
unfolding ends_liberty_word begins_with_pair begins_with
liberty_looks = record { two = λ x y xs more. refl; stays = λ x more h. go x more (is_liberty_byte x) h }
  where
    go : (x : ℕ) (more : List ℕ) (g : Bool) → cond g ((eqb x 47 && false) || (eqb x 92 && false)) true ≡ true → cond g ((eqb x 47 && begins_with 42 more) || (eqb x 92 && begins_with 10 more)) true ≡ true
    go x more true h = absurd (never (eqb x 47) (eqb x 92) h)
      where
        never : (p q : Bool) → ((p && false) || (q && false)) ≡ true → ⊥
        never true true h = absurd cc
        never true false h = absurd cc
        never false true h = absurd cc
        never false false h = absurd cc
    go x more false h = refl

-- ---- pieces

abbrev Firm : Style → ℕ → Piece → Type 0
Firm style there p = is_firm style there p ≡ true

pick : (F : Piece → Type 0) (c : Bool) (p q more_p more_q : Piece) → (F p → more_p ≡ p) → (F q → more_q ≡ q) → F (cond c p q) → cond c more_p more_q ≡ cond c p q
pick F true p q more_p more_q h k f = h f
pick F false p q more_p more_q h k f = k f

-- a piece that isn't firm by itself is shorter than what is there
shorter : (n there : ℕ) → (ltb n there || false) ≡ true → n < there
shorter n there h = ltb-true n there (go (ltb n there) h)
  where
    go : (g : Bool) → (g || false) ≡ true → g ≡ true
    go true h = refl
    go false h = absurd cc

string-more : (style : Style) (bs more : List ℕ) → Firm style (suc (length bs)) (string bs) → string (bs ++ more) ≡ string bs
unfolding string
string-more style bs more f = go (ltb (until (begins_with 34) bs) (length bs)) refl f
  where
    go : (g : Bool) → ltb (until (begins_with 34) bs) (length bs) ≡ g → Firm style (suc (length bs)) (cond g (Shown Str (until (begins_with 34) bs + 2)) (Shown Unfinished (until (begins_with 34) bs + 1)))
        → string (bs ++ more) ≡ cond g (Shown Str (until (begins_with 34) bs + 2)) (Shown Unfinished (until (begins_with 34) bs + 1))
    go true e f =
        let less : until (begins_with 34) bs < length bs = ltb-true _ _ e in
        let len = length-append bs more in
        let in_long : ltb (until (begins_with 34) bs) (length (bs ++ more)) ≡ true = lt-ltb _ _ (omega arith) in
        ap (λ m. cond (ltb m (length (bs ++ more))) (Shown Str (m + 2)) (Shown Unfinished (m + 1))) (until-more (begins_with 34) (byte_looks 34) bs more less)
        ∙ ap (λ z. cond z (Shown Str (until (begins_with 34) bs + 2)) (Shown Unfinished (until (begins_with 34) bs + 1))) in_long
    go false e f = absurd (let short : until (begins_with 34) bs + 1 < suc (length bs) = shorter (until (begins_with 34) bs + 1) (suc (length bs)) f in let less : ltb (until (begins_with 34) bs) (length bs) ≡ true = lt-ltb _ _ (omega arith) in cc)

drop-more : (bs more : List ℕ) → 1 ≤ length bs → drop 1 (bs ++ more) ≡ drop 1 bs ++ more
drop-more [] more h = absurd (omega arith)
drop-more (b ∷ bs) more h = refl

comment-more : (style : Style) (bs more : List ℕ) → 1 ≤ length bs → Firm style (suc (length bs)) (comment bs) → comment (bs ++ more) ≡ comment bs
unfolding comment
comment-more style bs more some f =
    ap (λ z. cond (ltb (until (begins_with_pair 42 47) z) (length z)) (Passed (until (begins_with_pair 42 47) z + 4)) (Shown Unfinished (until (begins_with_pair 42 47) z + 2))) (drop-more bs more some)
    ∙ go (drop 1 bs) (length-drop 1 bs) (ltb (until (begins_with_pair 42 47) (drop 1 bs)) (length (drop 1 bs))) refl f
  where
    go : (ds : List ℕ) → length ds ≡ length bs - 1 → (g : Bool) → ltb (until (begins_with_pair 42 47) ds) (length ds) ≡ g
        → Firm style (suc (length bs)) (cond g (Passed (until (begins_with_pair 42 47) ds + 4)) (Shown Unfinished (until (begins_with_pair 42 47) ds + 2)))
        → cond (ltb (until (begins_with_pair 42 47) (ds ++ more)) (length (ds ++ more))) (Passed (until (begins_with_pair 42 47) (ds ++ more) + 4)) (Shown Unfinished (until (begins_with_pair 42 47) (ds ++ more) + 2))
        ≡ cond g (Passed (until (begins_with_pair 42 47) ds + 4)) (Shown Unfinished (until (begins_with_pair 42 47) ds + 2))
    go ds len true e f =
        let less : until (begins_with_pair 42 47) ds < length ds = ltb-true _ _ e in
        let longer = length-append ds more in
        let in_long : ltb (until (begins_with_pair 42 47) ds) (length (ds ++ more)) ≡ true = lt-ltb _ _ (omega arith) in
        ap (λ m. cond (ltb m (length (ds ++ more))) (Passed (m + 4)) (Shown Unfinished (m + 2))) (until-more (begins_with_pair 42 47) (pair_looks 42 47) ds more less)
        ∙ ap (λ z. cond z (Passed (until (begins_with_pair 42 47) ds + 4)) (Shown Unfinished (until (begins_with_pair 42 47) ds + 2))) in_long
    go ds len false e f = absurd (
        let short : until (begins_with_pair 42 47) ds + 2 < suc (length bs) = shorter (until (begins_with_pair 42 47) ds + 2) (suc (length bs)) f in
        let less : ltb (until (begins_with_pair 42 47) ds) (length ds) ≡ true = lt-ltb _ _ (omega arith) in
        cc)

word-more : (style : Style) (ends : List ℕ → Bool) → LooksAtTwo ends → (bs more : List ℕ) → Firm style (suc (length bs)) (word ends bs) → word ends (bs ++ more) ≡ word ends bs
unfolding word
word-more style ends l bs more f =
    let less : until ends bs + 1 < suc (length bs) = shorter (until ends bs + 1) (suc (length bs)) f in
    ap (λ z. Shown Word (z + 1)) (until-more ends l bs more (omega arith))

-- a comment to the line's end, where such comments are
line_comment-more : (there : ℕ) (bs more : List ℕ) → there ≡ suc (length bs) → (ltb (until (begins_with 10) bs + 1) there || false) ≡ true → line_comment (bs ++ more) ≡ line_comment bs
unfolding line_comment
line_comment-more there bs more e f =
    let less : until (begins_with 10) bs + 1 < there = shorter (until (begins_with 10) bs + 1) there f in
    ap (λ z. Passed (z + 1)) (until-more (begins_with 10) (byte_looks 10) bs more (omega arith))

words-more : (b : ℕ) (bs more : List ℕ) → Firm Words (suc (length bs)) (words_piece b bs) → words_piece b (bs ++ more) ≡ words_piece b bs
unfolding words_piece
words-more b bs more f =
    let F = Firm Words (suc (length bs)) in
    pick F (is_blank b) _ _ _ _ (λ k. refl)
    (pick F (eqb b 10) _ _ _ _ (λ k. refl) (λ k. word-more Words begins_space space_looks bs more k)) f

lef-more : (b : ℕ) (bs more : List ℕ) → Firm Lef (suc (length bs)) (lef_piece b bs) → lef_piece b (bs ++ more) ≡ lef_piece b bs
unfolding lef_piece line_comment
lef-more b bs more f =
    let F = Firm Lef (suc (length bs)) in
    pick F (is_space b) _ _ _ _ (λ k. refl)
    (pick F (eqb b 35) _ _ _ _ (λ k. line_comment-more (suc (length bs)) bs more refl k)
    (pick F (eqb b 34) _ _ _ _ (λ k. string-more Lef bs more k) (λ k. word-more Lef begins_space space_looks bs more k))) f

-- the same, where the test is known
pick_by : (F : Piece → Type 0) (c : Bool) (p q more_p more_q : Piece) → (c ≡ true → F p → more_p ≡ p) → (F q → more_q ≡ q) → F (cond c p q) → cond c more_p more_q ≡ cond c p q
pick_by F true p q more_p more_q h k f = h refl f
pick_by F false p q more_p more_q h k f = k f

-- a piece of Liberty by whether a comment begins and whether two lines are joined
abbrev liberty_by : Bool → Bool → ℕ → List ℕ → Piece
liberty_by opens joins b bs =
    cond (is_blank b) (Passed 1) (cond (eqb b 10) (Shown LineEnd 1) (cond (eqb b 34) (string bs) (cond opens (comment bs) (cond joins (Passed 2) (cond (is_liberty_byte b) (word ends_liberty_word bs) (Shown Sign 1))))))

liberty_by-more : (opens joins : Bool) (b : ℕ) (bs more : List ℕ) → (opens ≡ true → 1 ≤ length bs) → Firm Liberty (suc (length bs)) (liberty_by opens joins b bs) → liberty_by opens joins b (bs ++ more) ≡ liberty_by opens joins b bs
liberty_by-more opens joins b bs more some f =
    let F = Firm Liberty (suc (length bs)) in
    pick F (is_blank b) _ _ _ _ (λ k. refl)
    (pick F (eqb b 10) _ _ _ _ (λ k. refl)
    (pick F (eqb b 34) _ _ _ _ (λ k. string-more Liberty bs more k)
    (pick_by F opens _ _ _ _ (λ e k. comment-more Liberty bs more (some e) k)
    (pick F joins _ _ _ _ (λ k. refl)
    (pick F (is_liberty_byte b) _ _ _ _ (λ k. word-more Liberty ends_liberty_word liberty_looks bs more k) (λ k. refl)))))) f

-- a slash or a backslash at the end of a text is no firm piece
slash_open : Firm Liberty 1 (liberty_piece 47 []) → ⊥
unfolding liberty_piece is_blank is_liberty_byte is_liberty_sign begins_with_pair begins_with word until
slash_open f = absurd cc

backslash_open : Firm Liberty 1 (liberty_piece 92 []) → ⊥
unfolding liberty_piece is_blank is_liberty_byte is_liberty_sign begins_with_pair begins_with word until
backslash_open f = absurd cc

isnt : (b c : ℕ) → Firm Liberty 1 (liberty_piece b []) → (Firm Liberty 1 (liberty_piece c []) → ⊥) → eqb b c ≡ false
isnt b c f opened = not_true (eqb b c) (λ e. opened (subst (λ z. Firm Liberty 1 (liberty_piece z [])) (eqb-true b c e) f))

liberty-more : (b : ℕ) (bs more : List ℕ) → Firm Liberty (suc (length bs)) (liberty_piece b bs) → liberty_piece b (bs ++ more) ≡ liberty_piece b bs
unfolding liberty_piece begins_with_pair begins_with
liberty-more b [] more f =
    let slash : eqb b 47 ≡ false = isnt b 47 f slash_open in
    let back : eqb b 92 ≡ false = isnt b 92 f backslash_open in
    let plain : Firm Liberty 1 (liberty_by false false b []) = subst (λ z. Firm Liberty 1 (liberty_by z false b [])) (ap (λ z. z && false) slash) (subst (λ z. Firm Liberty 1 (liberty_by (eqb b 47 && false) z b [])) (ap (λ z. z && false) back) f) in
    ap (λ z. liberty_by (z && begins_with 42 more) (eqb b 92 && begins_with 10 more) b more) slash
    ∙ ap (λ z. liberty_by false (z && begins_with 10 more) b more) back
    ∙ liberty_by-more false false b [] more (λ e. absurd cc) plain
    ∙ sym (ap (λ z. liberty_by (z && false) (eqb b 92 && false) b []) slash ∙ ap (λ z. liberty_by false (z && false) b []) back)
liberty-more b (x ∷ xs) more f = liberty_by-more (eqb b 47 && eqb x 42) (eqb b 92 && eqb x 10) b (x ∷ xs) more (λ e. omega arith) f

abbrev verilog_by : Bool → Bool → ℕ → List ℕ → Piece
verilog_by opens to_line b bs =
    cond (is_space b) (Passed 1) (cond (eqb b 34) (string bs) (cond opens (comment bs) (cond to_line (line_comment bs)
    (cond (eqb b 92) (word begins_space bs) (cond (is_letter b) (word (ends_run is_identifier_byte) bs) (cond (is_digit b) (word (ends_run is_number_byte) bs) (Shown Sign 1)))))))

verilog_by-more : (opens to_line : Bool) (b : ℕ) (bs more : List ℕ) → 1 ≤ length bs → Firm Verilog (suc (length bs)) (verilog_by opens to_line b bs) → verilog_by opens to_line b (bs ++ more) ≡ verilog_by opens to_line b bs
unfolding line_comment
verilog_by-more opens to_line b bs more some f =
    let F = Firm Verilog (suc (length bs)) in
    pick F (is_space b) _ _ _ _ (λ k. refl)
    (pick F (eqb b 34) _ _ _ _ (λ k. string-more Verilog bs more k)
    (pick F opens _ _ _ _ (λ k. comment-more Verilog bs more some k)
    (pick F to_line _ _ _ _ (λ k. line_comment-more (suc (length bs)) bs more refl k)
    (pick F (eqb b 92) _ _ _ _ (λ k. word-more Verilog begins_space space_looks bs more k)
    (pick F (is_letter b) _ _ _ _ (λ k. word-more Verilog (ends_run is_identifier_byte) (run_looks is_identifier_byte) bs more k)
    (pick F (is_digit b) _ _ _ _ (λ k. word-more Verilog (ends_run is_number_byte) (run_looks is_number_byte) bs more k) (λ k. refl))))))) f

out : (F : Piece → Type 0) (c : Bool) (p q : Piece) → (F p → ⊥) → (F q → ⊥) → F (cond c p q) → ⊥
out F true p q h k f = h f
out F false p q h k f = k f

-- the last byte of a text is no firm piece of Verilog
last_open : (b : ℕ) → Firm Verilog 1 (verilog_piece b []) → ⊥
unfolding verilog_piece string comment line_comment word until
last_open b f =
    let F = Firm Verilog 1 in
    out F (is_space b) _ _ (λ k. absurd cc)
    (out F (eqb b 34) _ _ (λ k. absurd cc)
    (out F (begins_with_pair 47 42 (b ∷ [])) _ _ (λ k. absurd cc)
    (out F (begins_with_pair 47 47 (b ∷ [])) _ _ (λ k. absurd cc)
    (out F (eqb b 92) _ _ (λ k. absurd cc)
    (out F (is_letter b) _ _ (λ k. absurd cc)
    (out F (is_digit b) _ _ (λ k. absurd cc) (λ k. absurd cc))))))) f

verilog-more : (b : ℕ) (bs more : List ℕ) → Firm Verilog (suc (length bs)) (verilog_piece b bs) → verilog_piece b (bs ++ more) ≡ verilog_piece b bs
unfolding verilog_piece begins_with_pair begins_with
verilog-more b [] more f = absurd (last_open b f)
verilog-more b (x ∷ xs) more f = verilog_by-more (eqb b 47 && eqb x 42) (eqb b 47 && eqb x 47) b (x ∷ xs) more (omega arith) f

-- a firm piece stays
pub piece-more : (style : Style) (b : ℕ) (bs more : List ℕ) → is_firm style (suc (length bs)) (piece style b bs) ≡ true → piece style b (bs ++ more) ≡ piece style b bs
unfolding piece
piece-more Liberty b bs more f = liberty-more b bs more f
piece-more Verilog b bs more f = verilog-more b bs more f
piece-more Lef b bs more f = lef-more b bs more f
piece-more Words b bs more f = words-more b bs more f

-- ---- token lists

before-append : (q : Piece) (p : Place) (ts us : List Token) → before q p (ts ++ us) ≡ before q p ts ++ us
unfolding before
before-append (Passed n) p ts us = refl
before-append (Shown kind n) p ts us = refl

pub tokens-more : (style : Style) (p : Place) (inside : ℕ) (xs more : List ℕ) → inside ≤ length xs
    → tokens style p inside (xs ++ more) ≡ firm style p inside xs ++ tokens style (open_place style p inside xs) 0 (open_bytes style p inside xs ++ more)
unfolding tokens firm open_place open_bytes
tokens-more style p zero [] more le = refl
tokens-more style p (suc n) [] more le = absurd (omega arith)
tokens-more style p (suc n) (b ∷ bs) more le = tokens-more style (over b p) n bs more (omega arith)
tokens-more style p zero (b ∷ bs) more le =
    go (is_firm style (suc (length bs)) (piece style b bs)) refl
    (let within = (piece-fits style b bs).within in tokens-more style (over b p) (size (piece style b bs) - 1) bs more (omega arith))
  where
    go : (g : Bool) → is_firm style (suc (length bs)) (piece style b bs) ≡ g
        → tokens style (over b p) (size (piece style b bs) - 1) (bs ++ more) ≡ firm style (over b p) (size (piece style b bs) - 1) bs ++ tokens style (open_place style (over b p) (size (piece style b bs) - 1) bs) 0 (open_bytes style (over b p) (size (piece style b bs) - 1) bs ++ more)
        → before (piece style b (bs ++ more)) p (tokens style (over b p) (size (piece style b (bs ++ more)) - 1) (bs ++ more))
        ≡ cond g (before (piece style b bs) p (firm style (over b p) (size (piece style b bs) - 1) bs)) []
        ++ tokens style (cond g (open_place style (over b p) (size (piece style b bs) - 1) bs) p) 0 (cond g (open_bytes style (over b p) (size (piece style b bs) - 1) bs) (b ∷ bs) ++ more)
    go true e again =
        ap (λ z. before z p (tokens style (over b p) (size z - 1) (bs ++ more))) (piece-more style b bs more e)
        ∙ ap (before (piece style b bs) p) again
        ∙ before-append (piece style b bs) p (firm style (over b p) (size (piece style b bs) - 1) bs) _
    go false e again = refl

or_false : (x y : Bool) → (x || y) ≡ false → x ≡ false
or_false true y h = absurd cc
or_false false y h = refl

not_less : (m n : ℕ) → ltb m n ≡ false → n ≤ m
not_less m n h = elim (cases_lt m n) [ inl less ↦ absurd (let yes = lt-ltb m n less in cc) | inr more ↦ more ]

inside_all : (style : Style) (p : Place) (bs : List ℕ) → tokens style p (length bs) bs ≡ token End (after p bs) (after p bs).at ∷ []
unfolding tokens after
inside_all style p [] = refl
inside_all style p (b ∷ bs) = inside_all style (over b p) bs

few : (q : Piece) (p : Place) (ts : List Token) → length ts ≡ 1 → length (before q p ts) ≤ 2
unfolding before
few (Passed n) p ts h = omega arith
few (Shown kind n) p ts h = omega arith

-- a piece that isn't firm reaches to the text's end
one_open : (style : Style) (p : Place) (b : ℕ) (bs : List ℕ) → is_firm style (suc (length bs)) (piece style b bs) ≡ false → length (tokens style p 0 (b ∷ bs)) ≤ 2
unfolding tokens
one_open style p b bs e =
    let within = (piece-fits style b bs).within in
    let long : suc (length bs) ≤ size (piece style b bs) = not_less (size (piece style b bs)) (suc (length bs)) (or_false (ltb (size (piece style b bs)) (suc (length bs))) (needs_no_look style (piece style b bs)) e) in
    let all : size (piece style b bs) - 1 ≡ length bs = omega arith in
    few (piece style b bs) p (tokens style (over b p) (size (piece style b bs) - 1) bs) (ap length (ap (λ z. tokens style (over b p) z bs) all ∙ inside_all style (over b p) bs))

end_alone : (style : Style) (p : Place) → length (tokens style p 0 []) ≤ 2
unfolding tokens
end_alone style p = omega arith

pub open-few : (style : Style) (p : Place) (inside : ℕ) (xs : List ℕ) → length (tokens style (open_place style p inside xs) 0 (open_bytes style p inside xs)) ≤ 2
unfolding open_place open_bytes
open-few style p zero [] = end_alone style p
open-few style p (suc n) [] = end_alone style p
open-few style p (suc n) (b ∷ bs) = open-few style (over b p) n bs
open-few style p zero (b ∷ bs) = go (is_firm style (suc (length bs)) (piece style b bs)) refl (open-few style (over b p) (size (piece style b bs) - 1) bs)
  where
    go : (g : Bool) → is_firm style (suc (length bs)) (piece style b bs) ≡ g
        → length (tokens style (open_place style (over b p) (size (piece style b bs) - 1) bs) 0 (open_bytes style (over b p) (size (piece style b bs) - 1) bs)) ≤ 2
        → length (tokens style (cond g (open_place style (over b p) (size (piece style b bs) - 1) bs) p) 0 (cond g (open_bytes style (over b p) (size (piece style b bs) - 1) bs) (b ∷ bs))) ≤ 2
    go true e again = again
    go false e again = one_open style p b bs e
