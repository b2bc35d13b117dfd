-- What a cursor has before it.
use Rattle.std.specs.Prelude.{ℕ, Bool, true, false, if◌then◌else◌, ◌≤◌, List, [], ◌∷◌, length, drop}
use Rattle.text_scan.specs.declared.token.Kind.{Kind}
use Rattle.text_scan.specs.declared.token.Kind.TheVariants.{Word, Str, Sign, Unfinished, LineEnd, End}
use Rattle.text_scan.specs.declared.token.Token.{Token}
use Rattle.text_scan.specs.declared.token.Style.{Style}
use Rattle.text_scan.specs.declared.token.Place.{Place}
use Rattle.text_scan.specs.declared.cursor.Cursor.{Cursor}
use Rattle.text_scan.specs.Tokens.{tokens}

-- the text of a cursor
unfoldable pub source : Cursor → List ℕ
source c = c.source.now

-- the tokens from a place of a text on
unfoldable pub tokens_at : Style → List ℕ → Place → List Token
tokens_at style text p = tokens style p 0 (drop p.at text)

-- the tokens that a cursor has not yet answered; at the end, the end
unfoldable pub left : Cursor → List Token
left c = tokens_at c.style c.source.now c.place

abbrev pub is_end : Kind → Bool
is_end End = true
is_end Word = false
is_end Str = false
is_end Sign = false
is_end Unfinished = false
is_end LineEnd = false

-- a token and those after it; after the end there are none
unfoldable pub followed : Token → List Token → List Token
followed t ts = if is_end t.kind then t ∷ [] else t ∷ ts

-- the token is a slice of the text
pub record IsSliceOf (text : List ℕ) (t : Token) : Type 0 where
  pub ordered : t.span.start ≤ t.span.end
  pub inside : t.span.end ≤ length text
