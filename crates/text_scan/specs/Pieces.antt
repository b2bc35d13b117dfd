-- What begins at a place of a text, in each style.
use Rattle.std.specs.Prelude.{ℕ, ◌+◌, Bool, true, false, ◌||◌, ◌==◌, nat_lt, if◌then◌else◌, List, [], ◌∷◌, length, drop}
use Rattle.text_scan.specs.declared.token.Kind.TheVariants.{Word, Str, Sign, Unfinished, LineEnd}
use Rattle.text_scan.specs.declared.token.Style.{Style}
use Rattle.text_scan.specs.declared.token.Style.TheVariants.{Liberty, Verilog, Lef, Words}
use Rattle.text_scan.specs.declared.piece.Piece.{Piece}
use Rattle.text_scan.specs.declared.piece.Piece.TheVariants.{Passed, Shown}
use Rattle.text_scan.specs.Bytes.{is_blank, is_space, is_liberty_byte, is_digit, is_letter, is_identifier_byte, is_number_byte, begins_with, begins_with_pair, until}

-- a string, by what follows its quote: it reaches to the next quote, over lines
unfoldable pub string : List ℕ → Piece
string bs = let n = until (begins_with 34) bs in if nat_lt n (length bs) then Shown Str (n + 2) else Shown Unfinished (n + 1)

-- a comment, by what follows its first byte: after its first two bytes it reaches to the next */
unfoldable pub comment : List ℕ → Piece
comment bs =
    let inside = drop 1 bs in
    let n = until (begins_with_pair 42 47) inside in
    if nat_lt n (length inside) then Passed (n + 4) else Shown Unfinished (n + 2)

-- a comment to the line's end or the text's, by what follows its first byte
unfoldable pub line_comment : List ℕ → Piece
line_comment bs = Passed (until (begins_with 10) bs + 1)

-- a word, by what follows its first byte and what ends it
unfoldable pub word : (List ℕ → Bool) → List ℕ → Piece
word ends bs = Shown Word (until ends bs + 1)

-- the end of a word that goes on over the bytes that pass the test
unfoldable pub ends_run : (ℕ → Bool) → List ℕ → Bool
ends_run test [] = true
ends_run test (b ∷ bs) = if test b then false else true

-- a blank, a tab, a CR or an LF ends the word
unfoldable pub begins_space : List ℕ → Bool
begins_space [] = true
begins_space (b ∷ bs) = is_space b

-- a word of Liberty also ends before a comment and before a backslash that joins two lines
unfoldable pub ends_liberty_word : List ℕ → Bool
ends_liberty_word [] = true
ends_liberty_word (b ∷ bs) = if is_liberty_byte b then begins_with_pair 47 42 (b ∷ bs) || begins_with_pair 92 10 (b ∷ bs) else true

unfoldable pub liberty_piece : ℕ → List ℕ → Piece
liberty_piece b bs =
    if is_blank b then Passed 1 else
    if b == 10 then Shown LineEnd 1 else
    if b == 34 then string bs else
    if begins_with_pair 47 42 (b ∷ bs) then comment bs else
    if begins_with_pair 92 10 (b ∷ bs) then Passed 2 else
    if is_liberty_byte b then word ends_liberty_word bs else
    Shown Sign 1

unfoldable pub verilog_piece : ℕ → List ℕ → Piece
verilog_piece b bs =
    if is_space b then Passed 1 else
    if b == 34 then string bs else
    if begins_with_pair 47 42 (b ∷ bs) then comment bs else
    if begins_with_pair 47 47 (b ∷ bs) then line_comment bs else
    if b == 92 then word begins_space bs else
    if is_letter b then word (ends_run is_identifier_byte) bs else
    if is_digit b then word (ends_run is_number_byte) bs else
    Shown Sign 1

unfoldable pub lef_piece : ℕ → List ℕ → Piece
lef_piece b bs =
    if is_space b then Passed 1 else
    if b == 35 then line_comment bs else
    if b == 34 then string bs else
    word begins_space bs

unfoldable pub words_piece : ℕ → List ℕ → Piece
words_piece b bs =
    if is_blank b then Passed 1 else
    if b == 10 then Shown LineEnd 1 else
    word begins_space bs

-- what begins a text of the byte b and then bs
unfoldable pub piece : Style → ℕ → List ℕ → Piece
piece Liberty b bs = liberty_piece b bs
piece Verilog b bs = verilog_piece b bs
piece Lef b bs = lef_piece b bs
piece Words b bs = words_piece b bs
