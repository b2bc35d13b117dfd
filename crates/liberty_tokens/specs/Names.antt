-- The content of a token, and the columns of a row.
use Rattle.std.specs.Prelude.{ℕ, ◌+◌, ◌-◌, Bool, true, false, ◌==◌, ◌&&◌, ◌||◌, nat_le, nat_lt, if◌then◌else◌, List, [], ◌∷◌, ◌++◌, length, slice_range}
use Rattle.std.specs.Str.{bytes_eq}
use Rattle.std.specs.List.{list_all}
use Rattle.text_scan.specs.declared.token.Kind.{Kind}
use Rattle.text_scan.specs.declared.token.Kind.TheVariants as kinds
use Rattle.text_scan.specs.declared.token.Token.{Token}
use Rattle.text_scan.specs.Bytes.{begins_with_pair}
use Rattle.liberty_tokens.specs.Looks.{text}

abbrev pub is_string : Kind → Bool
is_string kinds.Str = true
is_string kinds.Word = false
is_string kinds.Sign = false
is_string kinds.Unfinished = false
is_string kinds.LineEnd = false
is_string kinds.End = false

-- a line's end in a string is a blank
unfoldable pub shown_byte : ℕ → ℕ
shown_byte b = if b == 10 then 32 else b

-- a backslash before an LF
abbrev pub joins_lines : List ℕ → Bool
joins_lines bs = begins_with_pair 92 10 bs

-- the bytes of a string without those that join two lines; the first is one of them where joined is true
abbrev pub unjoined : Bool → List ℕ → List ℕ
unjoined joined [] = []
unjoined true (b ∷ bs) = unjoined false bs
unjoined false (b ∷ bs) = if joins_lines (b ∷ bs) then unjoined true bs else shown_byte b ∷ unjoined false bs

-- what stands between a string's quotes
unfoldable pub inside : List ℕ → Token → List ℕ
inside source t = slice_range source (t.span.start + 1) (t.span.end - 1)

-- a string stands for its content
unfoldable pub content : List ℕ → Token → List ℕ
content source t = if is_string t.kind then unjoined false (inside source t) else text source t

-- the columns of a string of a state table stand between blanks and tabs
unfoldable pub is_break : ℕ → Bool
is_break b = b == 32 || b == 9

abbrev pub ended_column : List ℕ → List (List ℕ) → List (List ℕ)
ended_column [] columns = columns
ended_column (c ∷ cs) columns = (c ∷ cs) ∷ columns

abbrev pub columns_from : List ℕ → List ℕ → List (List ℕ)
columns_from column [] = ended_column column []
columns_from column (b ∷ bs) = if is_break b then ended_column column (columns_from [] bs) else columns_from (column ++ b ∷ []) bs

unfoldable pub columns : List ℕ → List (List ℕ)
columns bs = columns_from [] bs
