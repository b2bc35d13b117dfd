-- What begins a text that is skimmed.
use Rattle.std.proofs.Common.{◌≡◌, ℕ, zero, suc, ◌+◌, ◌-◌, ◌<◌, ◌==◌, Bool, true, false, not, ◌||◌, ◌&&◌, nat_le, List, [], ◌∷◌, take, drop, refl, sym, ap, subst, ◌∙◌, arith}
use Rattle.std.proofs.lemmas.Bool.{eqb-true}
use Rattle.text_scan.specs.declared.token.Kind.TheVariants.{Word, Sign}
use Rattle.text_scan.specs.declared.token.Style.TheVariants.{Verilog}
use Rattle.text_scan.specs.declared.token.Place.{Place}
use Rattle.text_scan.specs.Bytes.{is_blank, is_space, is_letter, is_digit, is_identifier_byte, is_number_byte, begins_with, begins_with_pair, until}
use Rattle.text_scan.specs.Pieces.{piece, verilog_piece, word, line_comment, ends_run}
use Rattle.text_scan.specs.Tokens.{after, over, before, token, tokens}
use Rattle.text_scan.specs.Jumps.{forward, line_after}
use Rattle.text_scan.proofs.Until.{until-le}
use Rattle.text_scan.proofs.Flat.{flat-run, after_word}
use Rattle.text_scan.proofs.Scan.{inside}
use Rattle.verilog_directives.specs.Regions.{begins_part, begins_block, begins_region}
use Rattle.verilog_directives.specs.Skims.{begins_end, is_filler_text, is_plain_sign, IsBlank, IsLineEnd, IsToken}

-- a byte that passes a test isn't one that doesn't
apart : (P : ℕ → Bool) (c b : ℕ) → P c ≡ false → P b ≡ true → (b == c) ≡ false
apart P c b off on = go (b == c) refl
  where
    go : (g : Bool) → (b == c) ≡ g → (b == c) ≡ false
    go true e = absurd (let same : b ≡ c = eqb-true b c e in let bad : P b ≡ P c = ap P same in cc)
    go false e = e

-- ---- words

identifier_piece : (b : ℕ) (bs : List ℕ) → is_letter b ≡ true → piece Verilog b bs ≡ word (ends_run is_identifier_byte) bs
unfolding piece verilog_piece is_space begins_with_pair begins_with is_letter
identifier_piece b bs on =
    let at : (c : ℕ) → is_letter c ≡ false → (b == c) ≡ false = λ c off. apart is_letter c b off on in
    rw (at 32 refl, at 9 refl, at 13 refl, at 10 refl, at 34 refl, at 47 refl, at 92 refl, on) refl

number_piece : (b : ℕ) (bs : List ℕ) → is_letter b ≡ false → is_digit b ≡ true → piece Verilog b bs ≡ word (ends_run is_number_byte) bs
unfolding piece verilog_piece is_space begins_with_pair begins_with is_digit
number_piece b bs off on =
    let at : (c : ℕ) → is_digit c ≡ false → (b == c) ≡ false = λ c no. apart is_digit c b no on in
    rw (at 32 refl, at 9 refl, at 13 refl, at 10 refl, at 34 refl, at 47 refl, at 92 refl, off, on) refl

-- the bytes that an LF ends hold none
word_goes : (b : ℕ) (bs : List ℕ) (test : List ℕ → Bool) → piece Verilog b bs ≡ word test bs → (p : Place)
    → tokens Verilog p 0 (b ∷ bs) ≡ token Word p (p.at + (until test bs + 1)) ∷ tokens Verilog (forward (until test bs + 1) p) 0 (drop (until test bs + 1) (b ∷ bs))
unfolding tokens before word after
word_goes b bs test is p =
    let u : ℕ = until test bs in
    let less : u + 1 - 1 ≡ u = omega arith in
    let more : suc u ≡ u + 1 = omega arith in
    let place : after (over b p) (take u bs) ≡ forward (u + 1) p = ap (λ z. after p (take z (b ∷ bs))) more ∙ after_word Verilog b bs (u + 1) p (sym is) in
    rw is (
    ap (λ z. token Word p (p.at + (u + 1)) ∷ z) (ap (λ z. tokens Verilog (over b p) z bs) less ∙ inside Verilog (over b p) u bs
    ∙ ap (λ z. tokens Verilog z 0 (drop u bs)) place ∙ ap (λ z. tokens Verilog (forward (u + 1) p) 0 (drop z (b ∷ bs))) more))

pub identifier : (b : ℕ) (bs text : List ℕ) (n : ℕ) → text ≡ b ∷ bs → is_letter b ≡ true → n ≡ until (ends_run is_identifier_byte) bs + 1 → (begins_end (take n text) || begins_region (take n text)) ≡ false → IsToken text n
identifier b bs text n e on many open_word =
    let u : ℕ = until (ends_run is_identifier_byte) bs in
    let le = until-le (ends_run is_identifier_byte) bs in
    let P : List ℕ → Type 0 = λ z. (begins_end (take n z) || begins_region (take n z)) ≡ false → IsToken z n in
    subst P (sym e) (λ open_word. record {
      kind = Word;
      some = omega arith;
      within = omega arith;
      filler = ap not open_word;
      goes = λ p. subst (λ z. tokens Verilog p 0 (b ∷ bs) ≡ token Word p (p.at + z) ∷ tokens Verilog (forward z p) 0 (drop z (b ∷ bs))) (sym many) (word_goes b bs (ends_run is_identifier_byte) (identifier_piece b bs on) p);
    }) open_word

number_text : (b : ℕ) (bs : List ℕ) (n : ℕ) → is_digit b ≡ true → 0 < n → (begins_end (take n (b ∷ bs)) || begins_region (take n (b ∷ bs))) ≡ false
unfolding begins_end begins_part begins_block is_digit
number_text b bs zero on some = absurd (omega arith)
number_text b bs (suc n) on some = rw (apart is_digit 101 b refl on, apart is_digit 109 b refl on, apart is_digit 112 b refl on, apart is_digit 115 b refl on) refl

pub number : (b : ℕ) (bs text : List ℕ) (n : ℕ) → text ≡ b ∷ bs → is_letter b ≡ false → is_digit b ≡ true → n ≡ until (ends_run is_number_byte) bs + 1 → IsToken text n
number b bs text n e off on many =
    let u : ℕ = until (ends_run is_number_byte) bs in
    let le = until-le (ends_run is_number_byte) bs in
    let P : List ℕ → Type 0 = λ z. IsToken z n in
    subst P (sym e) (record {
      kind = Word;
      some = omega arith;
      within = omega arith;
      filler = ap not (number_text b bs n on (omega arith));
      goes = λ p. subst (λ z. tokens Verilog p 0 (b ∷ bs) ≡ token Word p (p.at + z) ∷ tokens Verilog (forward z p) 0 (drop z (b ∷ bs))) (sym many) (word_goes b bs (ends_run is_number_byte) (number_piece b bs off on) p);
    })

-- ---- signs

sign_goes : (b : ℕ) (bs : List ℕ) → is_letter b ≡ false → is_digit b ≡ false → is_plain_sign b ≡ true → (p : Place)
    → tokens Verilog p 0 (b ∷ bs) ≡ token Sign p (p.at + 1) ∷ tokens Verilog (forward 1 p) 0 bs
unfolding tokens before piece verilog_piece is_space begins_with_pair begins_with over
sign_goes b bs no_letter no_digit on p =
    let at : (c : ℕ) → is_plain_sign c ≡ false → (b == c) ≡ false = λ c no. apart is_plain_sign c b no on in
    rw (at 32 refl, at 9 refl, at 13 refl, at 10 refl, at 34 refl, at 47 refl, at 92 refl, no_letter, no_digit) refl

sign_parts : (a b : Bool) → (a && b) ≡ true → (a ≡ true) × (b ≡ true)
sign_parts true b e = (refl, e)
sign_parts false b e = absurd cc

sign_text : (b : ℕ) → is_plain_sign b ≡ true → is_filler_text Sign (b ∷ []) ≡ true
sign_text b on =
    let parts = sign_parts (nat_le 33 b && nat_le b 126) _ on in
    rw (parts.0, apart is_plain_sign 96 b refl on) refl

pub sign : (b : ℕ) (bs text : List ℕ) → text ≡ b ∷ bs → is_letter b ≡ false → is_digit b ≡ false → is_plain_sign b ≡ true → IsToken text 1
sign b bs text e no_letter no_digit on =
    let P : List ℕ → Type 0 = λ z. IsToken z 1 in
    subst P (sym e) (record {
      kind = Sign;
      some = omega arith;
      within = omega arith;
      filler = sign_text b on;
      goes = sign_goes b bs no_letter no_digit on;
    })

slash_goes : (bs : List ℕ) → begins_with 42 bs ≡ false → begins_with 47 bs ≡ false → (p : Place) → tokens Verilog p 0 (47 ∷ bs) ≡ token Sign p (p.at + 1) ∷ tokens Verilog (forward 1 p) 0 bs
unfolding tokens before piece verilog_piece is_space begins_with_pair is_letter is_digit over
slash_goes bs star no_line p = rw (star, no_line) refl

pub slash : (bs text : List ℕ) → text ≡ 47 ∷ bs → begins_with 42 bs ≡ false → begins_with 47 bs ≡ false → IsToken text 1
slash bs text e star no_line =
    let P : List ℕ → Type 0 = λ z. IsToken z 1 in
    subst P (sym e) (record { kind = Sign; some = omega arith; within = omega arith; filler = refl; goes = slash_goes bs star no_line })

-- ---- between tokens

comment_goes : (bs : List ℕ) → begins_with 42 bs ≡ false → begins_with 47 bs ≡ true → (p : Place)
    → tokens Verilog p 0 (47 ∷ bs) ≡ tokens Verilog (forward (suc (until (begins_with 10) bs)) p) 0 (drop (suc (until (begins_with 10) bs)) (47 ∷ bs))
unfolding tokens before piece verilog_piece is_space begins_with_pair begins_with line_comment until after
comment_goes bs star line p =
    let u : ℕ = until (begins_with 10) bs in
    let less : u + 1 - 1 ≡ u = omega arith in
    rw (star, line) (
    ap (λ z. tokens Verilog (over 47 p) z bs) less ∙ inside Verilog (over 47 p) u bs
    ∙ ap (λ z. tokens Verilog z 0 (drop u bs)) (flat-run (begins_with 10) (λ xs. refl) (47 ∷ bs) p (omega arith)))

pub comment : (bs text : List ℕ) (n : ℕ) → text ≡ 47 ∷ bs → begins_with 42 bs ≡ false → begins_with 47 bs ≡ true → n ≡ until (begins_with 10) bs + 1 → IsBlank text n
comment bs text n e star line many =
    let P : List ℕ → Type 0 = λ z. IsBlank z n in
    let le = until-le (begins_with 10) bs in
    let more : suc (until (begins_with 10) bs) ≡ n = omega arith in
    subst P (sym e) (record {
      some = omega arith;
      within = omega arith;
      goes = λ p. subst (λ z. tokens Verilog p 0 (47 ∷ bs) ≡ tokens Verilog (forward z p) 0 (drop z (47 ∷ bs))) more (comment_goes bs star line p);
    })

or_left : (p q : Bool) → p ≡ true → (p || q) ≡ true
or_left true q h = refl
or_left false q h = absurd cc

blank_space : (b : ℕ) → is_blank b ≡ true → is_space b ≡ true
unfolding is_blank is_space
blank_space b on = or_left (b == 32 || b == 9 || b == 13) (b == 10) on

blank_line : (b : ℕ) → is_blank b ≡ true → (b == 10) ≡ false
unfolding is_blank
blank_line b on = apart is_blank 10 b refl on

blank_goes : (b : ℕ) (bs : List ℕ) → (b == 10) ≡ false → is_space b ≡ true → (p : Place) → tokens Verilog p 0 (b ∷ bs) ≡ tokens Verilog (forward 1 p) 0 bs
unfolding tokens before piece verilog_piece over
blank_goes b bs no_line on p = rw (on, no_line) refl

pub blank : (b : ℕ) (bs text : List ℕ) → text ≡ b ∷ bs → is_blank b ≡ true → IsBlank text 1
blank b bs text e on =
    let P : List ℕ → Type 0 = λ z. IsBlank z 1 in
    subst P (sym e) (record { some = omega arith; within = omega arith; goes = blank_goes b bs (blank_line b on) (blank_space b on) })

pub space : (b : ℕ) (bs text : List ℕ) → text ≡ b ∷ bs → b ≡ 32 → IsBlank text 1
unfolding is_blank
space b bs text e is = blank b bs text e (rw is refl)

line_goes : (bs : List ℕ) (p : Place) → tokens Verilog p 0 (10 ∷ bs) ≡ tokens Verilog (line_after 1 p) 0 bs
unfolding tokens before piece verilog_piece is_space over
line_goes bs p = refl

pub line_end : (b : ℕ) (bs text : List ℕ) → text ≡ b ∷ bs → b ≡ 10 → IsLineEnd text
line_end b bs text e is =
    let P : List ℕ → Type 0 = λ z. IsLineEnd z in
    subst P (sym (e ∙ ap (λ z. z ∷ bs) is)) (record { some = omega arith; goes = line_goes bs })
