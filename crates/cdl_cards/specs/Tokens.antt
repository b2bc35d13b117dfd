-- The words of lines, and the tokens that are words.
use Rattle.std.specs.Prelude.{◌≡◌, ℕ, ◌-◌, if◌then◌else◌, Bool, true, false, List, [], ◌∷◌, ◌++◌, take, drop}
use Rattle.text_scan.specs.declared.token.Kind.{Kind}
use Rattle.text_scan.specs.declared.token.Kind.TheVariants.{Word, Str, Sign, Unfinished, LineEnd, End}
use Rattle.text_scan.specs.declared.token.Style.TheVariants.{Words}
use Rattle.text_scan.specs.declared.token.Token.{Token}
use Rattle.text_scan.specs.Tokens.{tokens_of}
use Rattle.cdl_cards.specs.Lines.{lines, next_line}
use Rattle.cdl_cards.specs.Words.{PlacedWord, words_of}

-- the words of these lines, the first of this number
unfoldable pub words_of_lines : ℕ → List (List ℕ) → List PlacedWord
words_of_lines number [] = []
words_of_lines number (line ∷ rest) = words_of number line ++ words_of_lines (next_line number) rest

abbrev pub is_word : Kind → Bool
is_word Word = true
is_word Str = false
is_word Sign = false
is_word Unfinished = false
is_word LineEnd = false
is_word End = false

-- a token's bytes and its place
abbrev pub placed : List ℕ → Token → PlacedWord
placed text t = record { bytes = take (t.span.end - t.span.start) (drop t.span.start text); line = t.span.line; column = t.span.column }

-- the tokens of a text that are words
unfoldable pub placed_words : List ℕ → List Token → List PlacedWord
placed_words text [] = []
placed_words text (t ∷ ts) = if is_word t.kind then placed text t ∷ placed_words text ts else placed_words text ts

-- the words of a text's lines are its tokens that are words, in the style of words
abbrev pub WordsAreTokens : List ℕ → Type 0
WordsAreTokens text = words_of_lines 1 (lines text) ≡ placed_words text (tokens_of Words text)
