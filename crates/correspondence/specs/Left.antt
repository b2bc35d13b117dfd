-- What a reader of lines has before it.
use Rattle.std.specs.Prelude.{◌≡◌, true, if◌then◌else◌, List, [], ◌∷◌}
use Rattle.text_scan.specs.Left.{left}
use Rattle.text_scan.specs.declared.token.Token.{Token}
use Rattle.correspondence.specs.Lines.{PlacedWord, Line, ends_line, kept, lines}
use Rattle.correspondence.specs.declared.lines.Lines.{Lines}
use Rattle.correspondence.specs.declared.word.Word.{Word}
use Rattle.correspondence.specs.declared.word.Next.{Next}
use Rattle.correspondence.specs.declared.word.Next.TheVariants as nexts

abbrev pub placed : Word → PlacedWord
placed w = record { bytes = w.bytes.now; token = w.token }

abbrev pub tokens_left : Lines → List Token
tokens_left l = left l.cursor

-- the lines of the tokens that aren't read yet, the first of them begun
abbrev pub begun : Lines → List Line
begun l = lines l.text.now (tokens_left l)

-- the line that was begun last is read to its end
abbrev pub is_between : Lines → Type 0
is_between l = ends_line l.last.kind ≡ true

abbrev pub words_of_first : List Line → List PlacedWord
words_of_first [] = []
words_of_first (l ∷ ls) = l.words

abbrev pub end_of_first : Token → List Line → Token
end_of_first t [] = t
end_of_first t (l ∷ ls) = l.ending

abbrev pub behind_first : List Line → List Line
behind_first [] = []
behind_first (l ∷ ls) = ls

-- the words that are left of the line that was begun last
unfoldable pub words_left : Lines → List PlacedWord
words_left l = if ends_line l.last.kind then [] else words_of_first (begun l)

-- the token that ends it
unfoldable pub end_left : Lines → Token
end_left l = if ends_line l.last.kind then l.last else end_of_first l.last (begun l)

-- the lines behind it that aren't passed over
unfoldable pub lines_left : Lines → List Line
lines_left l = kept (if ends_line l.last.kind then begun l else behind_first (begun l))

-- the line that has this word before those that are left
abbrev pub line_with : PlacedWord → Lines → Line
line_with w l = record { words = w ∷ words_left l; ending = end_left l }

-- this was the next word of the line, or its end
abbrev pub Came : Next → Lines → Lines → Type 0
Came (nexts.Word w) old new = (words_left old ≡ placed w ∷ words_left new) × (end_left new ≡ end_left old)
Came (nexts.LineEnd t) old new = (words_left old ≡ []) × (end_left old ≡ t) × (end_left new ≡ t) × is_between new
