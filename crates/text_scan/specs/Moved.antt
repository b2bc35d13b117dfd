-- Tokens of a text that stands behind another one.
use Rattle.std.specs.Prelude.{◌≡◌, ℕ, ◌+◌, ◌-◌, ◌==◌, if◌then◌else◌, min, List, []}
use Rattle.text_scan.specs.declared.token.Place.{Place}
use Rattle.text_scan.specs.declared.token.Token.{Token}
use Rattle.text_scan.specs.declared.token.Style.{Style}
use Rattle.text_scan.specs.Tokens.{start, token}
use Rattle.text_scan.specs.Firm.{open_bytes}

-- the place q of a text that begins at p: its first line goes on in the line of p
unfoldable pub onward : Place → Place → Place
onward p q = record { at = p.at + q.at; line = min (p.line + (q.line - 1)) 4294967295; column = if q.line == 1 then min (p.column + (q.column - 1)) 4294967295 else q.column }

-- a token of a text that begins at p: its kind and its bytes stay
unfoldable pub moved : Place → Token → Token
moved p t = token t.kind (onward p (record { at = t.span.start; line = t.span.line; column = t.span.column })) (p.at + t.span.end)

-- the text ends where a token ends, or between tokens, and no byte that may follow changes that
abbrev pub EndsAtToken : Style → List ℕ → Type 0
EndsAtToken style text = open_bytes style start 0 text ≡ []
