-- What a line says, by its first word.
use Rattle.std.specs.Prelude.{ℕ, Bool, false, ◌||◌, ◌==◌, if◌then◌else◌, List, [], ◌∷◌, codes}
use Rattle.std.specs.Str.{bytes_eq}
use Rattle.correspondence.specs.Lines.{PlacedWord, Line}
use Rattle.correspondence.specs.declared.kinds.LineKind.{LineKind}
use Rattle.correspondence.specs.declared.kinds.LineKind.TheVariants.{Table, Pins, Xpins, State, Udps, Nodes, Row, End, Other}

unfoldable pub kind_of_word : List ℕ → LineKind
kind_of_word bytes =
    if bytes_eq bytes (codes "row") then Row
    else if bytes_eq bytes (codes "table") then Table
    else if bytes_eq bytes (codes "pins") then Pins
    else if bytes_eq bytes (codes "xpins") then Xpins
    else if bytes_eq bytes (codes "state") then State
    else if bytes_eq bytes (codes "udps") then Udps
    else if bytes_eq bytes (codes "nodes") then Nodes
    else if bytes_eq bytes (codes "end") then End
    else Other

abbrev pub kind_of_words : List PlacedWord → LineKind
kind_of_words [] = Other
kind_of_words (w ∷ ws) = kind_of_word w.bytes

abbrev pub kind_of_line : Line → LineKind
kind_of_line l = kind_of_words l.words

abbrev pub number_of : LineKind → ℕ
number_of Table = 0
number_of Pins = 1
number_of Xpins = 2
number_of State = 3
number_of Udps = 4
number_of Nodes = 5
number_of Row = 6
number_of End = 7
number_of Other = 8

-- whether the second is the first
abbrev pub is_kind : LineKind → LineKind → Bool
is_kind kind k = number_of k == number_of kind

-- whether the second can follow the first; the end of a table is as the beginning of a file
abbrev pub follows : LineKind → LineKind → Bool
follows End k = is_kind Table k
follows Table k = is_kind Pins k
follows Pins k = is_kind Xpins k || is_kind State k
follows Xpins k = is_kind State k
follows State k = is_kind Udps k
follows Udps k = is_kind Nodes k
follows Nodes k = is_kind Row k || is_kind End k
follows Row k = is_kind Row k || is_kind End k
follows Other k = false
