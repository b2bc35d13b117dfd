-- The lines of a file of tables, and their words.
use Rattle.std.specs.Prelude.{ℕ, Bool, true, false, if◌then◌else◌, List, [], ◌∷◌, filter, slice_range}
use Rattle.text_scan.specs.Bytes.{begins_with}
use Rattle.text_scan.specs.Tokens.{tokens_of}
use Rattle.text_scan.specs.declared.token.Kind.{Kind}
use Rattle.text_scan.specs.declared.token.Kind.TheVariants.{Word, Str, Sign, Unfinished, LineEnd, End}
use Rattle.text_scan.specs.declared.token.Style.TheVariants.{Words}
use Rattle.text_scan.specs.declared.token.Token.{Token}

-- a word: its bytes, and its token, which tells where it stands
pub record PlacedWord : Type 0 where
  pub bytes : List ℕ
  pub token : Token

-- a line: its words, and the token that ends it
pub record Line : Type 0 where
  pub words : List PlacedWord
  pub ending : Token

-- a line ends at its LF, the last one at the end of the text
abbrev pub ends_line : Kind → Bool
ends_line LineEnd = true
ends_line End = true
ends_line Word = false
ends_line Str = false
ends_line Sign = false
ends_line Unfinished = false

abbrev pub word_of : List ℕ → Token → PlacedWord
word_of text t = record { bytes = slice_range text t.span.start t.span.end; token = t }

-- A word more at the front of the first line. The tokens of a text end with its end, so there is one.
abbrev pub with_word : PlacedWord → List Line → List Line
with_word w [] = record { words = w ∷ []; ending = w.token } ∷ []
with_word w (l ∷ ls) = record { words = w ∷ l.words; ending = l.ending } ∷ ls

-- the lines that these tokens of a text make
unfoldable pub lines : List ℕ → List Token → List Line
lines text [] = []
lines text (t ∷ ts) =
    if ends_line t.kind then record { words = []; ending = t } ∷ lines text ts
    else with_word (word_of text t) (lines text ts)

abbrev pub is_comment : List ℕ → Bool
is_comment bytes = begins_with 35 bytes

-- a line of no word, and one whose first word begins with #, is passed over
abbrev pub is_kept : List PlacedWord → Bool
is_kept [] = false
is_kept (w ∷ ws) = if is_comment w.bytes then false else true

abbrev pub kept : List Line → List Line
kept ls = filter (λ l. is_kept l.words) ls

-- the lines of a text that aren't passed over
unfoldable pub lines_of : List ℕ → List Line
lines_of text = kept (lines text (tokens_of Words text))
