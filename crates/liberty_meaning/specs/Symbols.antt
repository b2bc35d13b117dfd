-- The symbols of a state table (Liberty User Guide, "statetable Group").
use Rattle.std.specs.Prelude.{ℕ, Bool, true, false, ◌||◌, if◌then◌else◌, List, codes, bytes_eq, Option, Some, None}
use Rattle.tern_core.specs.declared.tern.Tern.{Tern}
use Rattle.tern_core.specs.declared.tern.Tern.TheVariants as tern
use Rattle.liberty_meaning.specs.declared.symbols.Symbol.{Symbol}
use Rattle.liberty_meaning.specs.declared.symbols.Symbol.TheVariants.{Low, High, Any, Rise, Fall, NotRise, NotFall, Keep, Unknown}
use Rattle.liberty_meaning.specs.declared.symbols.Role.{Role}
use Rattle.liberty_meaning.specs.declared.symbols.Role.TheVariants.{Input, Node, Next}

abbrev pub edge_of : List ℕ → Option Symbol
edge_of word =
    if bytes_eq word (codes "R") then Some Rise else
    if bytes_eq word (codes "F") then Some Fall else
    if bytes_eq word (codes "~R") then Some NotRise else
    if bytes_eq word (codes "~F") then Some NotFall else None

abbrev pub result_of : List ℕ → Option Symbol
result_of word = if bytes_eq word (codes "X") then Some Unknown else if bytes_eq word (codes "N") then Some Keep else None

-- only an input has edges, and only a next value X and N
abbrev pub special_of : Role → List ℕ → Option Symbol
special_of Input word = edge_of word
special_of Node word = None
special_of Next word = result_of word

abbrev pub is_slash : List ℕ → Bool
is_slash word = bytes_eq word (codes "L/H") || bytes_eq word (codes "H/L")

-- the symbol of a word; of a slash word its first or its second letter
abbrev pub symbol_of : Role → Bool → List ℕ → Option Symbol
symbol_of role second word =
    if bytes_eq word (codes "L") then Some Low else
    if bytes_eq word (codes "H") then Some High else
    if bytes_eq word (codes "-") then Some Any else
    if bytes_eq word (codes "L/H") then Some (if second then High else Low) else
    if bytes_eq word (codes "H/L") then Some (if second then Low else High) else special_of role word

abbrev pub is_zero : Tern → Bool
is_zero tern.Zero = true
is_zero tern.One = false
is_zero tern.Unknown = false

abbrev pub is_one : Tern → Bool
is_one tern.Zero = false
is_one tern.One = true
is_one tern.Unknown = false

abbrev pub rises : Tern → Tern → Bool
rises tern.Zero new = is_one new
rises tern.One new = false
rises tern.Unknown new = false

abbrev pub falls : Tern → Tern → Bool
falls tern.Zero new = false
falls tern.One new = is_zero new
falls tern.Unknown new = false

-- whether a symbol matches a value that was old and is new
abbrev pub matches_symbol : Symbol → Tern → Tern → Bool
matches_symbol Low old new = is_zero new
matches_symbol High old new = is_one new
matches_symbol Any old new = true
matches_symbol Rise old new = rises old new
matches_symbol Fall old new = falls old new
matches_symbol NotRise old new = if rises old new then false else true
matches_symbol NotFall old new = if falls old new then false else true
matches_symbol Keep old new = true
matches_symbol Unknown old new = true

-- a node's value where a row has matched
abbrev pub next_value : Symbol → Tern → Tern
next_value Low old = tern.Zero
next_value High old = tern.One
next_value Keep old = old
next_value Unknown old = tern.Unknown
next_value Any old = tern.Unknown
next_value Rise old = tern.Unknown
next_value Fall old = tern.Unknown
next_value NotRise old = tern.Unknown
next_value NotFall old = tern.Unknown
