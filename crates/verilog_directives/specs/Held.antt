-- Tokens that were looked at and not yet read.
use Rattle.std.specs.Prelude.{ℕ, Bool, ◌&&◌, not, nat_le, List, [], ◌∷◌}
use Rattle.std.specs.List.{list_all}
use Rattle.text_scan.specs.declared.token.Token.{Token}
use Rattle.text_scan.specs.Left.{is_end}
use Rattle.verilog_directives.specs.declared.held.Held.{Held}
use Rattle.verilog_directives.specs.declared.held.Held.TheVariants.{Nothing, One, Two, Three, Four}

abbrev pub tokens : Held → List Token
tokens Nothing = []
tokens (One a) = a ∷ []
tokens (Two a b) = a ∷ b ∷ []
tokens (Three a b c) = a ∷ b ∷ c ∷ []
tokens (Four a b c d) = a ∷ b ∷ c ∷ d ∷ []

-- a token that isn't the end, of a text of so many bytes
unfoldable pub is_inside : ℕ → Token → Bool
is_inside bytes t = not (is_end t.kind) && (nat_le t.span.start t.span.end && nat_le t.span.end bytes)

-- all are tokens of a text of so many bytes, and none is its end
abbrev pub are_inside : ℕ → Held → Bool
are_inside bytes held = list_all (is_inside bytes) (tokens held)
