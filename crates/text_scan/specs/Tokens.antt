-- The tokens of a text.
use Rattle.std.specs.Prelude.{ℕ, zero, suc, ◌+◌, ◌-◌, ◌==◌, if◌then◌else◌, min, List, [], ◌∷◌}
use Rattle.text_scan.specs.declared.token.Kind.{Kind}
use Rattle.text_scan.specs.declared.token.Kind.TheVariants.{End}
use Rattle.text_scan.specs.declared.token.Token.{Token}
use Rattle.text_scan.specs.declared.token.Style.{Style}
use Rattle.text_scan.specs.declared.token.Place.{Place}
use Rattle.text_scan.specs.declared.piece.Piece.{Piece}
use Rattle.text_scan.specs.declared.piece.Piece.TheVariants.{Passed, Shown}
use Rattle.text_scan.specs.Pieces.{piece}

-- the place before the first byte of a text, at this line and column
abbrev pub start_at : ℕ → ℕ → Place
start_at line column = record { at = 0; line = line; column = column }

abbrev pub start : Place
start = start_at 1 1

-- the place after the byte b that stands at p: an LF ends the line, and a number that grows too large stays
unfoldable pub over : ℕ → Place → Place
over b p = if b == 10
    then record { at = p.at + 1; line = min (p.line + 1) 4294967295; column = 1 }
    else record { at = p.at + 1; line = p.line; column = min (p.column + 1) 4294967295 }

-- the place after these bytes
unfoldable pub after : Place → List ℕ → Place
after p [] = p
after p (b ∷ bs) = after (over b p) bs

-- the token of this kind from the place p up to the byte at the index
unfoldable pub token : Kind → Place → ℕ → Token
token kind p end = record { kind = kind; span = record { line = p.line; column = p.column; start = p.at; end = end } }

-- a piece's bytes
abbrev pub size : Piece → ℕ
size (Passed n) = n
size (Shown kind n) = n

-- a piece at p before other tokens
unfoldable pub before : Piece → Place → List Token → List Token
before (Passed n) p ts = ts
before (Shown kind n) p ts = token kind p (p.at + n) ∷ ts

-- The tokens of a text at p whose first bytes, so many as inside says, belong to the piece before it.
-- At each place that lies in no piece a piece begins.
unfoldable pub tokens : Style → Place → ℕ → List ℕ → List Token
tokens style p inside [] = token End p p.at ∷ []
tokens style p (suc inside) (b ∷ bs) = tokens style (over b p) inside bs
tokens style p zero (b ∷ bs) = before (piece style b bs) p (tokens style (over b p) (size (piece style b bs) - 1) bs)

-- the tokens of a whole text, the end last
unfoldable pub tokens_of : Style → List ℕ → List Token
tokens_of style text = tokens style start 0 text
