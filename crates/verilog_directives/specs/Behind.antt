-- Tokens of a text that begins at a place of another.
use Rattle.std.specs.Prelude.{◌≡◌, ℕ, ◌≤◌, false, List, ◌∷◌, map, drop}
use Rattle.text_scan.specs.declared.token.Style.TheVariants.{Verilog}
use Rattle.text_scan.specs.declared.token.Place.{Place}
use Rattle.text_scan.specs.declared.token.Token.{Token}
use Rattle.text_scan.specs.declared.cursor.Cursor.{Cursor}
use Rattle.text_scan.specs.Left.{left, tokens_at, is_end}
use Rattle.text_scan.specs.Moved.{moved}

-- the tokens that a cursor has before it, whose text stands at this place of another
unfoldable pub moved_on : Place → Cursor → List Token
moved_on place cursor = map (moved place) (left cursor)

-- where a token begins
abbrev pub place_of : Token → Place
place_of t = record { at = t.span.start; line = t.span.line; column = t.span.column }

-- lines and columns count from 1
pub record IsCounted (p : Place) : Type 0 where
  pub line : 1 ≤ p.line
  pub column : 1 ≤ p.column

-- the tokens are those of the text from the first one's place on
pub record Stands (source : List ℕ) (t : Token) (us : List Token) : Type 0 where
  pub tokens : t ∷ us ≡ tokens_at Verilog source (place_of t)
  pub counted : IsCounted (place_of t)

-- so does each of the tokens but the end, with those after it
abbrev pub StandIn : List ℕ → List Token → Type 0
StandIn source ts = (k : ℕ) (t : Token) (us : List Token) → drop k ts ≡ t ∷ us → is_end t.kind ≡ false → Stands source t us
