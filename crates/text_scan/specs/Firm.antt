-- A text that is cut anywhere: what no byte after the cut can change.
use Rattle.std.specs.Prelude.{ℕ, zero, suc, ◌-◌, Bool, true, false, ◌||◌, nat_lt, if◌then◌else◌, List, [], ◌∷◌, length}
use Rattle.text_scan.specs.declared.token.Kind.TheVariants.{Word, Str, Sign, Unfinished, LineEnd, End}
use Rattle.text_scan.specs.declared.token.Style.{Style}
use Rattle.text_scan.specs.declared.token.Style.TheVariants.{Liberty, Verilog, Lef, Words}
use Rattle.text_scan.specs.declared.token.Place.{Place}
use Rattle.text_scan.specs.declared.token.Token.{Token}
use Rattle.text_scan.specs.declared.piece.Piece.{Piece}
use Rattle.text_scan.specs.declared.piece.Piece.TheVariants.{Passed, Shown}
use Rattle.text_scan.specs.Pieces.{piece}
use Rattle.text_scan.specs.Tokens.{over, before, size}

-- comments to the line's end, which a text's end may cut, stand in Verilog and LEF alone
abbrev pub has_line_comments : Style → Bool
has_line_comments Liberty = false
has_line_comments Verilog = true
has_line_comments Lef = true
has_line_comments Words = false

-- a sign of Verilog may begin a comment, if another byte follows
abbrev pub has_double_signs : Style → Bool
has_double_signs Liberty = false
has_double_signs Verilog = true
has_double_signs Lef = false
has_double_signs Words = false

abbrev pub not : Bool → Bool
not true = false
not false = true

-- a piece that needs no look at the byte after it
abbrev pub needs_no_look : Style → Piece → Bool
needs_no_look style (Passed n) = not (has_line_comments style)
needs_no_look style (Shown Str n) = true
needs_no_look style (Shown LineEnd n) = true
needs_no_look style (Shown Sign n) = not (has_double_signs style)
needs_no_look style (Shown Word n) = false
needs_no_look style (Shown Unfinished n) = false
needs_no_look style (Shown End n) = false

-- a piece that stays as it is whatever follows the text, of which so many bytes are there
abbrev pub is_firm : Style → ℕ → Piece → Bool
is_firm style there p = nat_lt (size p) there || needs_no_look style p

-- the tokens before the first piece that isn't firm
unfoldable pub firm : Style → Place → ℕ → List ℕ → List Token
firm style p inside [] = []
firm style p (suc inside) (b ∷ bs) = firm style (over b p) inside bs
firm style p zero (b ∷ bs) = if is_firm style (suc (length bs)) (piece style b bs) then before (piece style b bs) p (firm style (over b p) (size (piece style b bs) - 1) bs) else []

-- where that piece begins
unfoldable pub open_place : Style → Place → ℕ → List ℕ → Place
open_place style p inside [] = p
open_place style p (suc inside) (b ∷ bs) = open_place style (over b p) inside bs
open_place style p zero (b ∷ bs) = if is_firm style (suc (length bs)) (piece style b bs) then open_place style (over b p) (size (piece style b bs) - 1) bs else p

-- its bytes, up to the text's end
unfoldable pub open_bytes : Style → Place → ℕ → List ℕ → List ℕ
open_bytes style p inside [] = []
open_bytes style p (suc inside) (b ∷ bs) = open_bytes style (over b p) inside bs
open_bytes style p zero (b ∷ bs) = if is_firm style (suc (length bs)) (piece style b bs) then open_bytes style (over b p) (size (piece style b bs) - 1) bs else b ∷ bs
