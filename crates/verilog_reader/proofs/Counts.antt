-- A text has few tokens, and leaves no more items.
use Rattle.std.proofs.Common.{◌≡◌, ◌==◌, nat_lt, drop, Bool, true, false, ℕ, zero, suc, ◌-◌, ◌≤◌, List, [], ◌∷◌, length, refl, arith}
use Rattle.text_scan.specs.declared.token.Token.{Token}
use Rattle.text_scan.specs.declared.token.Place.{Place}
use Rattle.text_scan.specs.declared.token.Style.TheVariants.{Verilog}
use Rattle.text_scan.specs.declared.limits.Limits.{Limits}
use Rattle.text_scan.specs.Bytes.{is_space, is_letter, is_digit, begins_with, begins_with_pair, until}
use Rattle.text_scan.specs.Pieces.{piece, verilog_piece, string, comment, line_comment, word}
use Rattle.text_scan.specs.Tokens.{before, over, size, tokens, tokens_of, start}
use Rattle.verilog_directives.specs.declared.left.Left.{Left}
use Rattle.verilog_directives.specs.Left as directives
use Rattle.verilog_directives.specs.Left.{State, Turn, Ends, Shows, Goes, turn, left_from, left_of}

few_string : (bs : List ℕ) (p : Place) (ts : List Token) (k : ℕ) → length ts ≤ k → length (before (string bs) p ts) ≤ suc k
unfolding before string
few_string bs p ts k h = go (nat_lt (until (begins_with 34) bs) (length bs)) refl
  where
    go : (g : Bool) → nat_lt (until (begins_with 34) bs) (length bs) ≡ g → length (before (string bs) p ts) ≤ suc k
    go true e = rw e (omega arith)
    go false e = rw e (omega arith)

few_comment : (bs : List ℕ) (p : Place) (ts : List Token) (k : ℕ) → length ts ≤ k → length (before (comment bs) p ts) ≤ suc k
unfolding before comment
few_comment bs p ts k h = go (nat_lt (until (begins_with_pair 42 47) (drop 1 bs)) (length (drop 1 bs))) refl
  where
    go : (g : Bool) → nat_lt (until (begins_with_pair 42 47) (drop 1 bs)) (length (drop 1 bs)) ≡ g → length (before (comment bs) p ts) ≤ suc k
    go true e = rw e (omega arith)
    go false e = rw e (omega arith)

few_words : (b : ℕ) (bs : List ℕ) (p : Place) (ts : List Token) (k : ℕ) → length ts ≤ k → (x y z : Bool) → (b == 92) ≡ x → is_letter b ≡ y → is_digit b ≡ z
    → is_space b ≡ false → (b == 34) ≡ false → begins_with_pair 47 42 (b ∷ bs) ≡ false → begins_with_pair 47 47 (b ∷ bs) ≡ false → length (before (verilog_piece b bs) p ts) ≤ suc k
unfolding before verilog_piece word
few_words b bs p ts k h true y z e f g i j l m = rw (i, j, l, m, e) (omega arith)
few_words b bs p ts k h false true z e f g i j l m = rw (i, j, l, m, e, f) (omega arith)
few_words b bs p ts k h false false true e f g i j l m = rw (i, j, l, m, e, f, g) (omega arith)
few_words b bs p ts k h false false false e f g i j l m = rw (i, j, l, m, e, f, g) (omega arith)

few_by : (b : ℕ) (bs : List ℕ) (p : Place) (ts : List Token) (k : ℕ) → length ts ≤ k → (x y z u : Bool) → is_space b ≡ x → (b == 34) ≡ y → begins_with_pair 47 42 (b ∷ bs) ≡ z → begins_with_pair 47 47 (b ∷ bs) ≡ u
    → length (before (verilog_piece b bs) p ts) ≤ suc k
unfolding before verilog_piece line_comment
few_by b bs p ts k h true y z u e f g i = rw e (omega arith)
few_by b bs p ts k h false true z u e f g i = rw (e, f) (few_string bs p ts k h)
few_by b bs p ts k h false false true u e f g i = rw (e, f, g) (few_comment bs p ts k h)
few_by b bs p ts k h false false false true e f g i = rw (e, f, g, i) (omega arith)
few_by b bs p ts k h false false false false e f g i = few_words b bs p ts k h (b == 92) (is_letter b) (is_digit b) refl refl refl e f g i

few_before : (b : ℕ) (bs : List ℕ) (p : Place) (ts : List Token) (k : ℕ) → length ts ≤ k → length (before (piece Verilog b bs) p ts) ≤ suc k
unfolding piece
few_before b bs p ts k h = few_by b bs p ts k h (is_space b) (b == 34) (begins_with_pair 47 42 (b ∷ bs)) (begins_with_pair 47 47 (b ∷ bs)) refl refl refl refl

few_tokens : (p : Place) (inside : ℕ) (bs : List ℕ) → length (tokens Verilog p inside bs) ≤ suc (length bs)
unfolding tokens
few_tokens p inside [] = omega arith
few_tokens p (suc inside) (b ∷ bs) = let h = few_tokens (over b p) inside bs in omega arith
few_tokens p zero (b ∷ bs) = few_before b bs p (tokens Verilog (over b p) (size (piece Verilog b bs) - 1) bs) (suc (length bs)) (few_tokens (over b p) (size (piece Verilog b bs) - 1) bs)

few_items_by : (x : Turn) (rest : State → ℕ → List Left) (k : ℕ) → ((s : State) (inside : ℕ) → length (rest s inside) ≤ k) → length (directives.taken x rest) ≤ suc k
few_items_by (Ends last) rest k h = omega arith
few_items_by (Shows shown inside s) rest k h = let few = h s inside in omega arith
few_items_by (Goes inside s) rest k h = let few = h s inside in omega arith

few_items : (source : List ℕ) (limits : Limits) (s : State) (inside : ℕ) (ts : List Token) → length (left_from source limits s inside ts) ≤ length ts
unfolding left_from
few_items source limits s inside [] = omega arith
few_items source limits s (suc inside) (t ∷ ts) = let few = few_items source limits s inside ts in omega arith
few_items source limits s zero (t ∷ ts) = few_items_by (turn source limits s t ts) (λ next inside. left_from source limits next inside ts) (length ts) (λ next inside. few_items source limits next inside ts)

pub few_left : (source : List ℕ) (limits : Limits) → length (left_of source limits) ≤ suc (length source)
unfolding left_of tokens_of
few_left source limits =
    let items = few_items source limits directives.start 0 (tokens Verilog start 0 source) in
    let few = few_tokens start 0 source in
    omega arith
