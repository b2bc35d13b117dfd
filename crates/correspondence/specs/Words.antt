-- What the words of a line may be.
use Rattle.std.specs.Prelude.{ℕ, Bool, ◌==◌, ◌||◌, if◌then◌else◌, List, [], ◌∷◌, map, codes, Option, Some, None, Result, Ok, Err}
use Rattle.std.specs.Str.{bytes_eq}
use Rattle.std.specs.List.{list_all}
use Rattle.text_scan.specs.declared.limits.Limits.{Limits}
use Rattle.text_scan.specs.declared.limits.LimitKind.TheVariants as limit_kinds
use Rattle.text_scan.specs.declared.refusal.FileRefusal.{FileRefusal}
use Rattle.text_scan.specs.declared.token.Token.{Token}
use Rattle.file_rules.specs.Names.{is_name, is_too_long}
use Rattle.file_rules.specs.Refusals.{at_token, too_many}
use Rattle.grammar.specs.Reading.{◌>>=◌}
use Rattle.tern_core.specs.declared.tern.Tern.{Tern}
use Rattle.tern_core.specs.declared.tern.Tern.TheVariants.{Zero, One, Unknown}
use Rattle.table_source.specs.declared.Row.{Row}
use Rattle.correspondence.specs.Lines.{PlacedWord, Line}
use Rattle.correspondence.specs.declared.table.NamesLine.{NamesLine}

abbrev pub at_word : PlacedWord → FileRefusal
at_word w = at_token w.token

abbrev pub first_of : Option FileRefusal → Option FileRefusal → Option FileRefusal
first_of None next = next
first_of (Some refusal) next = Some refusal

-- the value, unless there is a refusal
abbrev pub unless : {X : Type 0} → Option FileRefusal → X → Result X FileRefusal
unless None x = Ok x
unless (Some refusal) x = Err refusal

-- the words behind the first
abbrev pub behind : List PlacedWord → List PlacedWord
behind [] = []
behind (w ∷ ws) = ws

abbrev pub bytes_of : PlacedWord → List ℕ
bytes_of w = w.bytes

abbrev pub line_of_words : List PlacedWord → ℕ
line_of_words [] = 0
line_of_words (w ∷ ws) = w.token.span.line

-- the line of its first word
abbrev pub line_number : Line → ℕ
line_number l = line_of_words l.words

-- the first word that is too much
abbrev pub more_refusal : List PlacedWord → Option FileRefusal
more_refusal [] = None
more_refusal (w ∷ ws) = Some (at_word w)

-- ---- names

-- why a word is no name; its length is judged first
unfoldable pub name_refusal : Limits → PlacedWord → Option FileRefusal
name_refusal limits w =
    if is_too_long limits w.bytes then Some (too_many limits limit_kinds.Name)
    else if is_name w.bytes then None
    else Some (at_word w)

-- the first of the words that is no name
unfoldable pub names_refusal : Limits → List PlacedWord → Option FileRefusal
names_refusal limits [] = None
names_refusal limits (w ∷ ws) = first_of (name_refusal limits w) (names_refusal limits ws)

-- the names of a line with this number whose words behind the first are these
unfoldable pub names_of : Limits → ℕ → List PlacedWord → Result NamesLine FileRefusal
names_of limits line ws = unless (names_refusal limits ws) (record { names = map bytes_of ws; line = line })

-- ---- values

-- 0, 1 and X
abbrev pub is_value : ℕ → Bool
is_value b = b == 48 || b == 49 || b == 88

abbrev pub value_of : ℕ → Tern
value_of b = if b == 48 then Zero else if b == 49 then One else Unknown

abbrev pub are_values : List ℕ → Bool
are_values bytes = list_all is_value bytes

abbrev pub made_values : List ℕ → List Tern
made_values bytes = map value_of bytes

-- the values that a word tells, a lone - telling none; other words tell nothing
unfoldable pub values_of : List ℕ → Option (List Tern)
values_of bytes =
    if bytes_eq bytes (codes "-") then Some []
    else if are_values bytes then Some (made_values bytes)
    else None

-- the values of a line's next word, and the words behind it
abbrev pub told_values : PlacedWord → List PlacedWord → Option (List Tern) → Result (List Tern × List PlacedWord) FileRefusal
told_values w ws None = Err (at_word w)
told_values w ws (Some values) = Ok (values, ws)

abbrev pub next_values : List PlacedWord → Token → Result (List Tern × List PlacedWord) FileRefusal
next_values [] ending = Err (at_token ending)
next_values (w ∷ ws) ending = told_values w ws (values_of w.bytes)

-- the values of two words
unfoldable pub two_values : List PlacedWord → Token → Result ((List Tern × List Tern) × List PlacedWord) FileRefusal
two_values ws ending =
    next_values ws ending >>= λ a.
    next_values a.1 ending >>= λ b.
    Ok ((a.0, b.0), b.1)

-- a row, by its line's number, the words behind the first and the line's end: four words tell values, and none follows
unfoldable pub row_of : ℕ → List PlacedWord → Token → Result Row FileRefusal
row_of line ws ending =
    two_values ws ending >>= λ a.
    two_values a.1 ending >>= λ b.
    unless (more_refusal b.1) (record { line = line; pins = a.0.0; liberty = a.0.1; udps = b.0.0; nodes = b.0.1 })
