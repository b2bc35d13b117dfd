-- The tokens of a text that stands behind another one.
use Rattle.std.proofs.Common.{◌≡◌, ℕ, zero, suc, ◌+◌, ◌-◌, ◌≤◌, Bool, true, false, cond, eqb, eqb-true, min, List, [], ◌∷◌, ◌++◌, length, map, refl, ap, sym, ◌∙◌, arith}
use Rattle.text_scan.specs.declared.token.Kind.TheVariants.{End}
use Rattle.text_scan.specs.declared.token.Style.{Style}
use Rattle.text_scan.specs.declared.token.Place.{Place}
use Rattle.text_scan.specs.declared.token.Token.{Token}
use Rattle.text_scan.specs.declared.piece.Piece.{Piece}
use Rattle.text_scan.specs.declared.piece.Piece.TheVariants.{Passed, Shown}
use Rattle.text_scan.specs.Pieces.{piece}
use Rattle.text_scan.specs.Tokens.{size, start, over, after, before, tokens, tokens_of, token}
use Rattle.text_scan.specs.Firm.{is_firm, firm, open_place, open_bytes}
use Rattle.text_scan.specs.Moved.{onward, moved}
use Rattle.std.proofs.lemmas.List.{append-nil}
use Rattle.text_scan.proofs.Size.{piece-fits}
use Rattle.text_scan.proofs.Firm.{tokens-more}

-- a place as places count: from 1, to the greatest number
pub record IsPlace (p : Place) : Type 0 where
  pub line : 1 ≤ p.line
  pub column : 1 ≤ p.column
  pub line_fits : p.line ≤ 4294967295
  pub column_fits : p.column ≤ 4294967295

same : (a b l k c d : ℕ) → a ≡ b → l ≡ k → c ≡ d → (let p : Place = record { at = a; line = l; column = c } in p) ≡ record { at = b; line = k; column = d }
same a b l k c d e f g = cc

pub start_is_place : IsPlace start
start_is_place = record { line = omega arith; column = omega arith; line_fits = omega arith; column_fits = omega arith }

over_is_place : (b : ℕ) (p : Place) → IsPlace p → IsPlace (over b p)
unfolding over
over_is_place b p is = go (eqb b 10)
  where
    go : (g : Bool) → IsPlace (cond g (record { at = p.at + 1; line = min (p.line + 1) 4294967295; column = 1 }) (record { at = p.at + 1; line = p.line; column = min (p.column + 1) 4294967295 }))
    go true = let i = is.line in record { line = omega arith; column = omega arith; line_fits = omega arith; column_fits = omega arith }
    go false = let i = is.line in let j = is.line_fits in record { line = i; column = omega arith; line_fits = j; column_fits = omega arith }

pub after_is_place : (bs : List ℕ) (p : Place) → IsPlace p → IsPlace (after p bs)
unfolding after
after_is_place [] p is = is
after_is_place (b ∷ bs) p is = after_is_place bs (over b p) (over_is_place b p is)

-- a line that goes on is still no first one
next_line : (n : ℕ) → 1 ≤ n → eqb (min (n + 1) 4294967295) 1 ≡ false
next_line n h = go (eqb (min (n + 1) 4294967295) 1) refl
  where
    go : (g : Bool) → eqb (min (n + 1) 4294967295) 1 ≡ g → g ≡ false
    go false e = refl
    go true e = absurd (let one = eqb-true (min (n + 1) 4294967295) 1 e in omega arith)

over_onward : (b : ℕ) (p q : Place) → IsPlace p → IsPlace q → over b (onward p q) ≡ onward p (over b q)
unfolding over onward
over_onward b p q is iq = go is.line is.column iq.line iq.column (eqb b 10)
  where
    go : 1 ≤ p.line → 1 ≤ p.column → 1 ≤ q.line → 1 ≤ q.column → (g : Bool)
        → cond g (let r : Place = record { at = p.at + q.at + 1; line = min (min (p.line + (q.line - 1)) 4294967295 + 1) 4294967295; column = 1 } in r)
        (record { at = p.at + q.at + 1; line = min (p.line + (q.line - 1)) 4294967295; column = min (cond (eqb q.line 1) (min (p.column + (q.column - 1)) 4294967295) q.column + 1) 4294967295 })
        ≡ onward p (cond g (record { at = q.at + 1; line = min (q.line + 1) 4294967295; column = 1 }) (record { at = q.at + 1; line = q.line; column = min (q.column + 1) 4294967295 }))
    go pl pc ql qc true = same _ _ _ _ _ _ (omega arith) (omega arith) (sym (ap (λ z. cond z (min (p.column + (1 - 1)) 4294967295) 1) (next_line q.line ql)))
    go pl pc ql qc false = same _ _ _ _ _ _ (omega arith) refl (column pc qc (eqb q.line 1))
      where
        column : 1 ≤ p.column → 1 ≤ q.column → (f : Bool) → min (cond f (min (p.column + (q.column - 1)) 4294967295) q.column + 1) 4294967295 ≡ cond f (min (p.column + (min (q.column + 1) 4294967295 - 1)) 4294967295) (min (q.column + 1) 4294967295)
        column pc qc true = omega arith
        column pc qc false = omega arith

-- where the text begins, it begins
pub onward_start : (p : Place) → IsPlace p → onward p start ≡ p
unfolding onward
onward_start p is =
    let l = is.line_fits in
    let c = is.column_fits in
    same _ _ _ _ _ _ (omega arith) (omega arith) (omega arith)

end_moved : (p q : Place) → token End (onward p q) (onward p q).at ∷ [] ≡ map (moved p) (token End q q.at ∷ [])
unfolding onward moved token
end_moved p q = refl

moved_before : (x : Piece) (p q : Place) (ts us : List Token) → ts ≡ map (moved p) us → before x (onward p q) ts ≡ map (moved p) (before x q us)
unfolding before moved token onward
moved_before (Passed n) p q ts us e = e
moved_before (Shown kind n) p q ts us e =
    ap (λ z. record { kind = kind; span = record { line = min (p.line + (q.line - 1)) 4294967295; column = cond (eqb q.line 1) (min (p.column + (q.column - 1)) 4294967295) q.column; start = p.at + q.at; end = z } } ∷ ts) (let f : p.at + q.at + n ≡ p.at + (q.at + n) = omega arith in f)
    ∙ ap (λ z. record { kind = kind; span = record { line = min (p.line + (q.line - 1)) 4294967295; column = cond (eqb q.line 1) (min (p.column + (q.column - 1)) 4294967295) q.column; start = p.at + q.at; end = p.at + (q.at + n) } } ∷ z) e

pub tokens_moved : (style : Style) (p q : Place) (inside : ℕ) (bs : List ℕ) → IsPlace p → IsPlace q → tokens style (onward p q) inside bs ≡ map (moved p) (tokens style q inside bs)
unfolding tokens
tokens_moved style p q zero [] is iq = end_moved p q
tokens_moved style p q (suc n) [] is iq = end_moved p q
tokens_moved style p q (suc n) (b ∷ bs) is iq = ap (λ r. tokens style r n bs) (over_onward b p q is iq) ∙ tokens_moved style p (over b q) n bs is (over_is_place b q iq)
tokens_moved style p q zero (b ∷ bs) is iq =
    ap (λ r. before (piece style b bs) (onward p q) (tokens style r (size (piece style b bs) - 1) bs)) (over_onward b p q is iq)
    ∙ moved_before (piece style b bs) p q _ _ (tokens_moved style p (over b q) (size (piece style b bs) - 1) bs is (over_is_place b q iq))

pub tokens_at : (style : Style) (p : Place) (bs : List ℕ) → IsPlace p → tokens style p 0 bs ≡ map (moved p) (tokens_of style bs)
unfolding tokens_of
tokens_at style p bs is = ap (λ r. tokens style r 0 bs) (sym (onward_start p is)) ∙ tokens_moved style p start 0 bs is start_is_place

-- where no byte is left open, all bytes are read
pub open_after : (style : Style) (p : Place) (inside : ℕ) (bs : List ℕ) → inside ≤ length bs → open_bytes style p inside bs ≡ [] → open_place style p inside bs ≡ after p bs
unfolding open_bytes open_place after
open_after style p zero [] le e = refl
open_after style p (suc n) [] le e = absurd (omega arith)
open_after style p (suc n) (b ∷ bs) le e = open_after style (over b p) n bs (omega arith) e
open_after style p zero (b ∷ bs) le e =
    go (is_firm style (suc (length bs)) (piece style b bs)) e
    (let within = (piece-fits style b bs).within in open_after style (over b p) (size (piece style b bs) - 1) bs (omega arith))
  where
    go : (g : Bool) → cond g (open_bytes style (over b p) (size (piece style b bs) - 1) bs) (b ∷ bs) ≡ []
        → (open_bytes style (over b p) (size (piece style b bs) - 1) bs ≡ [] → open_place style (over b p) (size (piece style b bs) - 1) bs ≡ after (over b p) bs)
        → cond g (open_place style (over b p) (size (piece style b bs) - 1) bs) p ≡ after (over b p) bs
    go true e again = again e
    go false e again = absurd cc

pub open_is_place : (style : Style) (p : Place) (inside : ℕ) (bs : List ℕ) → IsPlace p → IsPlace (open_place style p inside bs)
unfolding open_place
open_is_place style p zero [] is = is
open_is_place style p (suc n) [] is = is
open_is_place style p (suc n) (b ∷ bs) is = open_is_place style (over b p) n bs (over_is_place b p is)
open_is_place style p zero (b ∷ bs) is = go (is_firm style (suc (length bs)) (piece style b bs)) (open_is_place style (over b p) (size (piece style b bs) - 1) bs (over_is_place b p is))
  where
    go : (g : Bool) → IsPlace (open_place style (over b p) (size (piece style b bs) - 1) bs) → IsPlace (cond g (open_place style (over b p) (size (piece style b bs) - 1) bs) p)
    go true again = again
    go false again = is

-- ---- what the laws say

pub split : (style : Style) (xs more : List ℕ) → tokens_of style (xs ++ more) ≡ firm style start 0 xs ++ map (moved (open_place style start 0 xs)) (tokens_of style (open_bytes style start 0 xs ++ more))
unfolding tokens_of
split style xs more =
    tokens-more style start 0 xs more (omega arith)
    ∙ ap (λ z. firm style start 0 xs ++ z) (tokens_at style (open_place style start 0 xs) (open_bytes style start 0 xs ++ more) (open_is_place style start 0 xs start_is_place))

end_only : (style : Style) (p : Place) → tokens style p 0 [] ≡ token End p p.at ∷ []
unfolding tokens
end_only style p = refl

pub first_part : (style : Style) (xs : List ℕ) → open_bytes style start 0 xs ≡ [] → tokens_of style xs ≡ firm style start 0 xs ++ token End (after start xs) (after start xs).at ∷ []
unfolding tokens_of
first_part style xs e =
    ap (tokens style start 0) (sym (append-nil xs))
    ∙ tokens-more style start 0 xs [] (omega arith)
    ∙ ap (λ z. firm style start 0 xs ++ tokens style (open_place style start 0 xs) 0 (z ++ [])) e
    ∙ ap (λ z. firm style start 0 xs ++ tokens style z 0 []) (open_after style start 0 xs (omega arith) e)
    ∙ ap (λ z. firm style start 0 xs ++ z) (end_only style (after start xs))

pub both_parts : (style : Style) (xs more : List ℕ) → open_bytes style start 0 xs ≡ [] → tokens_of style (xs ++ more) ≡ firm style start 0 xs ++ map (moved (after start xs)) (tokens_of style more)
both_parts style xs more e =
    split style xs more
    ∙ ap (λ z. firm style start 0 xs ++ map (moved (open_place style start 0 xs)) (tokens_of style (z ++ more))) e
    ∙ ap (λ z. firm style start 0 xs ++ map (moved z) (tokens_of style more)) (open_after style start 0 xs (omega arith) e)
