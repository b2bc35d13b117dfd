-- Tokens that are skimmed: to a reader that waits for a word that begins with `end` they say nothing, and where the text
-- stands stays as it is.
use Rattle.std.specs.Prelude.{◌≡◌, ℕ, ◌+◌, ◌<◌, ◌≤◌, Bool, true, false, not, ◌==◌, ◌&&◌, ◌||◌, nat_le, List, [], ◌∷◌, ◌++◌, length, take, drop, codes}
use Rattle.std.specs.List.{list_all}
use Rattle.std.specs.Str.{bytes_eq}
use Rattle.text_scan.specs.declared.token.Kind.{Kind}
use Rattle.text_scan.specs.declared.token.Kind.TheVariants.{Word, Str, Sign, Unfinished, LineEnd, End}
use Rattle.text_scan.specs.declared.token.Style.TheVariants.{Verilog}
use Rattle.text_scan.specs.declared.token.Place.{Place}
use Rattle.text_scan.specs.declared.token.Token.{Token}
use Rattle.text_scan.specs.Bytes.{begins_with_pair}
use Rattle.text_scan.specs.Tokens.{token, tokens}
use Rattle.text_scan.specs.Jumps.{forward, line_after}
use Rattle.verilog_directives.specs.declared.skim.Skim.{Skim}
use Rattle.verilog_directives.specs.declared.skim.Skim.TheVariants as skims
use Rattle.verilog_directives.specs.Signs.{text, is_sign}
use Rattle.verilog_directives.specs.Regions.{begins_region}

-- the word begins with `end`
unfoldable pub begins_end : List ℕ → Bool
begins_end [] = false
begins_end (b ∷ bs) = b == 101 && begins_with_pair 110 100 bs

abbrev pub is_filler_text : Kind → List ℕ → Bool
is_filler_text Word w = not (begins_end w || begins_region w)
is_filler_text Sign w = is_sign w && not (bytes_eq w (codes "`"))
is_filler_text Str w = false
is_filler_text Unfinished w = false
is_filler_text LineEnd w = false
is_filler_text End w = false

-- a filler: a word that doesn't begin with `end`, nor a module, a primitive or a specify block, or a sign but `
unfoldable pub is_filler : List ℕ → Token → Bool
is_filler source t = is_filler_text t.kind (text source t)

-- a filler on any line but this one
unfoldable pub is_skimmed : List ℕ → ℕ → Token → Bool
is_skimmed source line t = is_filler source t && not (t.span.line == line)

-- between these two lists fillers were gone over
pub record Skims (source : List ℕ) (line : ℕ) (before after : List Token) : Type 0 where
  pub skimmed : List Token
  pub front : before ≡ skimmed ++ after
  pub fillers : list_all (is_skimmed source line) skimmed ≡ true

-- the first bytes of the text, so many, are on one line and belong to no token
pub record IsBlank (text : List ℕ) (n : ℕ) : Type 0 where
  pub some : 0 < n
  pub within : n ≤ length text
  pub goes : (p : Place) → tokens Verilog p 0 text ≡ tokens Verilog (forward n p) 0 (drop n text)

-- a line's end
pub record IsLineEnd (text : List ℕ) : Type 0 where
  pub some : 0 < length text
  pub goes : (p : Place) → tokens Verilog p 0 text ≡ tokens Verilog (line_after 1 p) 0 (drop 1 text)

-- a filler of so many bytes
pub record IsToken (text : List ℕ) (n : ℕ) : Type 0 where
  pub kind : Kind
  pub some : 0 < n
  pub within : n ≤ length text
  pub filler : is_filler_text kind (take n text) ≡ true
  pub goes : (p : Place) → tokens Verilog p 0 text ≡ token kind p (p.at + n) ∷ tokens Verilog (forward n p) 0 (drop n text)

-- a sign that can begin no comment, string or directive; a \ begins a word
abbrev pub is_plain_sign : ℕ → Bool
is_plain_sign b = (nat_le 33 b && nat_le b 126) && (not (b == 34) && (not (b == 47) && (not (b == 92) && not (b == 96))))

-- the text begins so
abbrev pub Begins : List ℕ → Skim → Type 0
Begins text skims.Stop = Unit {0}
Begins text skims.Line = IsLineEnd text
Begins text (skims.Blank n) = IsBlank text n
Begins text (skims.Token n) = IsToken text n
