-- What a token of Verilog is for its directives.
use Rattle.std.specs.Prelude.{ℕ, Bool, true, false, ◌==◌, ◌&&◌, not, nat_le, if◌then◌else◌, List, [], ◌∷◌, Option, None, Some, codes, slice_range}
use Rattle.std.specs.Char.{is_ascii_digit}
use Rattle.std.specs.Str.{bytes_eq}
use Rattle.text_scan.specs.declared.token.Kind.{Kind}
use Rattle.text_scan.specs.declared.token.Kind.TheVariants.{Word, Str, Sign, Unfinished, LineEnd, End}
use Rattle.text_scan.specs.declared.token.Token.{Token}
use Rattle.verilog_directives.specs.Words.{is_reserved}

-- the token's bytes
abbrev pub text : List ℕ → Token → List ℕ
text source t = slice_range source t.span.start t.span.end

-- a byte that may be a sign: one from 33 to 126
abbrev pub is_sign : List ℕ → Bool
is_sign [] = false
is_sign (b ∷ bs) = nat_le 33 b && nat_le b 126

abbrev pub is_wrong_text : Kind → List ℕ → Bool
is_wrong_text Unfinished bs = true
is_wrong_text Sign bs = not (is_sign bs)
is_wrong_text Word bs = false
is_wrong_text Str bs = false
is_wrong_text LineEnd bs = false
is_wrong_text End bs = false

-- the token is wrong wherever it stands: a string or a comment without an end, or a byte that is no sign
unfoldable pub is_wrong : List ℕ → Token → Bool
is_wrong source t = is_wrong_text t.kind (text source t)

abbrev pub is_mark_text : Kind → List ℕ → Bool
is_mark_text Sign bs = bytes_eq bs (codes "`")
is_mark_text Word bs = false
is_mark_text Str bs = false
is_mark_text Unfinished bs = false
is_mark_text LineEnd bs = false
is_mark_text End bs = false

-- the ` of a directive or a macro
unfoldable pub is_mark : List ℕ → Token → Bool
is_mark source t = is_mark_text t.kind (text source t)

abbrev pub is_word : Kind → Bool
is_word Word = true
is_word Str = false
is_word Sign = false
is_word Unfinished = false
is_word LineEnd = false
is_word End = false

-- a \ alone
unfoldable pub is_lone : List ℕ → Token → Bool
is_lone source t = is_word t.kind && bytes_eq (text source t) (92 ∷ [])

-- the bytes of a word that touches the `, and else no bytes
unfoldable pub word_after : List ℕ → Token → Token → List ℕ
word_after source mark t = if is_word t.kind && t.span.start == mark.span.end then text source t else []

-- what follows the \ of an escaped identifier is its name, if anything does
abbrev pub escaped_name : List ℕ → Option (List ℕ)
escaped_name [] = None
escaped_name (b ∷ bs) = Some (b ∷ bs)

-- the name of a word that is an identifier; a number is none, and no word of the grammar's own is
unfoldable pub name_in : List ℕ → Option (List ℕ)
name_in [] = None
name_in (b ∷ bs) =
    if b == 92 then escaped_name bs else
    if is_ascii_digit b then None else
    if is_reserved (b ∷ bs) then None else
    Some (b ∷ bs)

-- the name of a token that is an identifier
unfoldable pub name_of : List ℕ → Token → Option (List ℕ)
name_of source t = if is_word t.kind then name_in (text source t) else None
