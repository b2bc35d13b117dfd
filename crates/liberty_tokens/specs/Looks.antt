-- What a token is for Liberty's grammar, and which line ends are blanks.
use Rattle.std.specs.Prelude.{ℕ, Bool, true, false, ◌==◌, if◌then◌else◌, List, [], ◌∷◌, slice_index, slice_range}
use Rattle.text_scan.specs.declared.token.Kind.{Kind}
use Rattle.text_scan.specs.declared.token.Kind.TheVariants as kinds
use Rattle.text_scan.specs.declared.token.Token.{Token}
use Rattle.liberty_tokens.specs.declared.look.Look.{Look}
use Rattle.liberty_tokens.specs.declared.look.Look.TheVariants.{Word, Str, OpenParen, CloseParen, OpenBrace, CloseBrace, Semicolon, Colon, Comma, Unnamed, LineEnd, End, Unfinished}

-- a byte that is a token by itself: a sign of Liberty's, or one that no rule names
unfoldable pub sign_look : ℕ → Look
sign_look b =
    if b == 40 then OpenParen else
    if b == 41 then CloseParen else
    if b == 123 then OpenBrace else
    if b == 125 then CloseBrace else
    if b == 59 then Semicolon else
    if b == 58 then Colon else
    if b == 44 then Comma else
    Unnamed

abbrev pub byte_at : List ℕ → ℕ → ℕ
byte_at source at = slice_index source at

abbrev pub kind_look : Kind → ℕ → Look
kind_look kinds.Word b = Word
kind_look kinds.Str b = Str
kind_look kinds.Sign b = sign_look b
kind_look kinds.Unfinished b = Unfinished
kind_look kinds.LineEnd b = LineEnd
kind_look kinds.End b = End

unfoldable pub look_of : List ℕ → Token → Look
look_of source t = kind_look t.kind (byte_at source t.span.start)

-- the bytes of a token
unfoldable pub text : List ℕ → Token → List ℕ
text source t = slice_range source t.span.start t.span.end

abbrev pub is_word : Look → Bool
is_word Word = true
is_word _ = false

-- a word or a string
abbrev pub is_arg : Look → Bool
is_arg Word = true
is_arg Str = true
is_arg _ = false

-- any token but ; : { }, the ends and bytes that no rule names
abbrev pub is_value : Look → Bool
is_value Word = true
is_value Str = true
is_value OpenParen = true
is_value CloseParen = true
is_value Comma = true
is_value _ = false

abbrev pub is_open_paren : Look → Bool
is_open_paren OpenParen = true
is_open_paren _ = false

abbrev pub is_close_paren : Look → Bool
is_close_paren CloseParen = true
is_close_paren _ = false

abbrev pub is_open_brace : Look → Bool
is_open_brace OpenBrace = true
is_open_brace _ = false

abbrev pub is_close_brace : Look → Bool
is_close_brace CloseBrace = true
is_close_brace _ = false

abbrev pub is_semicolon : Look → Bool
is_semicolon Semicolon = true
is_semicolon _ = false

abbrev pub is_colon : Look → Bool
is_colon Colon = true
is_colon _ = false

abbrev pub is_comma : Look → Bool
is_comma Comma = true
is_comma _ = false

abbrev pub is_line : Look → Bool
is_line LineEnd = true
is_line _ = false

abbrev pub is_end : Look → Bool
is_end End = true
is_end _ = false

-- outside the value of a simple attribute a line's end is a blank
abbrev pub shows : Bool → Look → Bool
shows true l = true
shows false LineEnd = false
shows false _ = true

-- whether the next token stands in a value: a value begins after a colon, and ends with ; { } or the line
abbrev pub goes_on : Bool → Look → Bool
goes_on in_value Colon = true
goes_on in_value Semicolon = false
goes_on in_value OpenBrace = false
goes_on in_value CloseBrace = false
goes_on in_value LineEnd = false
goes_on in_value _ = in_value

abbrev pub before_them : Bool → Token → List Token → List Token
before_them true t ts = t ∷ ts
before_them false t ts = ts

-- the tokens without the line ends that are blanks
abbrev pub visible : List ℕ → Bool → List Token → List Token
visible source in_value [] = []
visible source in_value (t ∷ ts) = before_them (shows in_value (look_of source t)) t (visible source (goes_on in_value (look_of source t)) ts)
