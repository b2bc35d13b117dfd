-- What a library's statements leave: the cells, each with its groups, each with its attributes.
use Rattle.std.specs.Prelude.{ℕ, zero, suc, ◌+◌, ◌-◌, Bool, true, false, ◌==◌, ◌&&◌, nat_lt, nat_le, if◌then◌else◌, List, [], ◌∷◌, ◌++◌, length, take, filter, slice_range, Option, Some, None, Result, Ok, Err}
use Rattle.std.specs.List.{list_any}
use Rattle.text_scan.specs.declared.token.Token.{Token}
use Rattle.text_scan.specs.declared.limits.Limits.{Limits}
use Rattle.text_scan.specs.declared.limits.LimitKind.TheVariants as limit_kinds
use Rattle.grammar.specs.Reading.{◌>>=◌}
use Rattle.liberty_statements.specs.declared.halt.Refusal.{Refusal}
use Rattle.liberty_statements.specs.declared.halt.Refusal.TheVariants as refusals
use Rattle.liberty_tokens.specs.declared.kinds.GroupKind.{GroupKind}
use Rattle.liberty_tokens.specs.declared.kinds.GroupKind.TheVariants as groups
use Rattle.liberty_tokens.specs.declared.kinds.AttributeKind.{AttributeKind}
use Rattle.liberty_tokens.specs.declared.kinds.AttributeKind.TheVariants as attributes
use Rattle.liberty_statements.specs.declared.statements.Value.{Value}
use Rattle.liberty_statements.specs.declared.statements.Level.{Level}
use Rattle.liberty_statements.specs.declared.statements.Level.TheVariants as levels
use Rattle.liberty_statements.specs.declared.statements.Statements.{Statements}
use Rattle.liberty_tokens.specs.Looks.{text}
use Rattle.liberty_tokens.specs.Words.{group_kind, attribute_kind, is_cell}
use Rattle.name_index.specs.Places.{is_known}
use Rattle.file_rules.specs.Names.{is_name, is_too_long}
use Rattle.liberty_tokens.specs.Names.{content, columns, is_string}

abbrev pub Outcome : Type 0
Outcome = Result Statements Refusal

abbrev pub too_long : Refusal
too_long = refusals.TooMany limit_kinds.Name

abbrev pub is_pin : GroupKind → Bool
is_pin groups.Pin = true
is_pin groups.PgPin = false
is_pin groups.Ff = false
is_pin groups.Latch = false
is_pin groups.StateTable = false
is_pin groups.Unread = false
is_pin groups.Other = false

abbrev pub is_internal_node : AttributeKind → Bool
is_internal_node attributes.InternalNode = true
is_internal_node _ = false

abbrev pub is_other : AttributeKind → Bool
is_other attributes.Other = true
is_other _ = false

-- the arguments of a statement directly in the library or a cell count
abbrev pub is_outer : Level → Bool
is_outer levels.Library = true
is_outer levels.Cell = true
is_outer levels.Group = false

abbrev pub is_group : Level → Bool
is_group levels.Library = false
is_group levels.Cell = false
is_group levels.Group = true

unfoldable pub keep : Token → Statements → Outcome
keep t s = Ok s

unfoldable pub begin_statement : Token → Statements → Outcome
begin_statement t s = Ok (record s { word = t; args = [] })

unfoldable pub add_arg : Token → Statements → Outcome
add_arg t s = Ok (record s { args = if s.passed == 0 && is_outer s.level then s.args ++ t ∷ [] else s.args })

-- ---- values

unfoldable pub grown : Token → Option Value → Value
grown t None = record { first = t; last = t }
grown t (Some v) = record { first = v.first; last = t }

-- a value of one token is its content; one of several is the text from the first to the last as it stands
unfoldable pub value_text : List ℕ → Value → List ℕ
value_text source v = if v.first.span.start == v.last.span.start then content source v.first else slice_range source v.first.span.start v.last.span.end

-- the attribute names a node
unfoldable pub reads_node : List ℕ → Statements → Bool
reads_node source s = s.passed == 0 && (is_group s.level && (is_pin s.group_kind && is_internal_node (attribute_kind (text source s.word))))

unfoldable pub is_long : List ℕ → Limits → Value → Bool
is_long source limits v = is_too_long limits (value_text source v)

-- with this token the node's name is too long
unfoldable pub is_refused : List ℕ → Limits → Token → Statements → Bool
is_refused source limits t s = if reads_node source s then is_long source limits (grown t s.value) else false

unfoldable pub add_value : List ℕ → Limits → Token → Statements → Outcome
add_value source limits t s = if is_refused source limits t s then Err too_long else Ok (record s { value = Some (grown t s.value) })

-- an attribute directly in a group of a cell is kept where it says something
unfoldable pub keep_value : Bool → AttributeKind → Value → Statements → Statements
keep_value counts kind v s = if counts && (if is_other kind then false else true)
    then record s { value = None; attributes = s.attributes ++ record { kind = kind; word = s.word; value = v } ∷ [] }
    else record s { value = None }

abbrev pub settle_value : List ℕ → Option Value → Statements → Statements
settle_value source None s = s
settle_value source (Some v) s = keep_value (s.passed == 0 && is_group s.level) (attribute_kind (text source s.word)) v s

-- the value that is read, if there is one, has ended
unfoldable pub settled : List ℕ → Statements → Statements
settled source s = settle_value source s.value s

unfoldable pub settle : List ℕ → Token → Statements → Outcome
settle source t s = Ok (settled source s)

-- ---- groups begin

unfoldable pub pass : Statements → Statements
pass s = record s { passed = s.passed + 1 }

-- a use of a name of a pin
unfoldable pub add_pin_name : List ℕ → Limits → Token → List (List ℕ) → Result (List (List ℕ)) Refusal
add_pin_name source limits t names =
    if is_too_long limits (content source t) then Err too_long else
    if is_name (content source t) then (if is_known (content source t) names then Err (refusals.DoubleName t) else Ok (names ++ content source t ∷ []))
    else Ok names

abbrev pub add_pin_names : List ℕ → Limits → List Token → List (List ℕ) → Result (List (List ℕ)) Refusal
add_pin_names source limits [] names = Ok names
add_pin_names source limits (t ∷ ts) names = add_pin_name source limits t names >>= add_pin_names source limits ts

-- an argument of ff or latch is a name
unfoldable pub is_long_variable : List ℕ → Limits → Token → Bool
is_long_variable source limits t = is_too_long limits (content source t)

abbrev pub has_long_variable : List ℕ → Limits → List Token → Bool
has_long_variable source limits [] = false
has_long_variable source limits (t ∷ ts) = if is_long_variable source limits t then true else has_long_variable source limits ts

abbrev pub has_long_column : Limits → List (List ℕ) → Bool
has_long_column limits names = list_any (λ c. is_too_long limits c) names

-- the arguments of statetable whose columns are names: two strings, the inputs and the nodes; a word, or a third string, has none
unfoldable pub column_strings : List Token → List Token
column_strings ts = take 2 (filter (λ t. is_string t.kind) ts)

unfoldable pub is_long_row : List ℕ → Limits → Token → Bool
is_long_row source limits t = has_long_column limits (columns (content source t))

abbrev pub has_long_row : List ℕ → Limits → List Token → Bool
has_long_row source limits [] = false
has_long_row source limits (t ∷ ts) = if is_long_row source limits t then true else has_long_row source limits ts

unfoldable pub unless_long : Bool → List (List ℕ) → Result (List (List ℕ)) Refusal
unless_long b names = if b then Err too_long else Ok names

-- the names of the pins where the arguments of a group are read as names
unfoldable pub add_names : List ℕ → Limits → GroupKind → List Token → List (List ℕ) → Result (List (List ℕ)) Refusal
add_names source limits groups.Pin ts names = add_pin_names source limits ts names
add_names source limits groups.PgPin ts names = add_pin_names source limits ts names
add_names source limits groups.Ff ts names = unless_long (has_long_variable source limits ts) names
add_names source limits groups.Latch ts names = unless_long (has_long_variable source limits ts) names
add_names source limits groups.StateTable ts names = unless_long (has_long_row source limits (column_strings ts)) names
add_names source limits groups.Unread ts names = Ok names
add_names source limits groups.Other ts names = Ok names

unfoldable pub open_group : GroupKind → Statements → List (List ℕ) → Statements
open_group kind s names = record s { level = levels.Group; group_kind = kind; group_word = s.word; group_args = s.args; args = []; pin_names = names }

unfoldable pub enter_read_group : List ℕ → Limits → GroupKind → Statements → Outcome
enter_read_group source limits kind s = add_names source limits kind s.args s.pin_names >>= λ names. Ok (open_group kind s names)

unfoldable pub enter_group : List ℕ → Limits → GroupKind → Statements → Outcome
enter_group source limits groups.Other s = Ok (pass s)
enter_group source limits kind s = enter_read_group source limits kind s

unfoldable pub open_cell : Statements → Token → List ℕ → Statements
open_cell s t name = record s { level = levels.Cell; cell_word = s.word; cell_name = t; args = []; cell_names = s.cell_names ++ name ∷ [] }

-- a cell of this name: the name's length comes first, then whether it is one, and whether it is new
unfoldable pub enter_named_cell : Limits → Token → List ℕ → Statements → Outcome
enter_named_cell limits t name s =
    if is_too_long limits name then Err too_long else
    if is_name name then (if is_known name s.cell_names then Err (refusals.DoubleName t) else Ok (open_cell s t name))
    else Err (refusals.BadName t)

-- the number of cells comes before the name
unfoldable pub enter_cell : List ℕ → Limits → Token → Statements → Outcome
enter_cell source limits t s = if nat_le limits.cells (length s.cells) then Err (refusals.TooMany limit_kinds.Cells) else enter_named_cell limits t (content source t) s

-- a group cell with one argument is a cell
unfoldable pub enter_in_library : List ℕ → Limits → List Token → Statements → Outcome
enter_in_library source limits [] s = Ok (pass s)
enter_in_library source limits (t ∷ []) s = if is_cell (text source s.word) then enter_cell source limits t s else Ok (pass s)
enter_in_library source limits (t ∷ u ∷ us) s = Ok (pass s)

abbrev pub enter_level : List ℕ → Limits → Level → Statements → Outcome
enter_level source limits levels.Library s = enter_in_library source limits s.args s
enter_level source limits levels.Cell s = enter_group source limits (group_kind (text source s.word)) s
enter_level source limits levels.Group s = Ok (pass s)

unfoldable pub entered : List ℕ → Limits → Statements → Outcome
entered source limits s = if s.passed == 0 then enter_level source limits s.level s else Ok (pass s)

-- so many groups may still be nested
unfoldable pub nested : ℕ → Statements → Outcome
nested zero s = Err (refusals.TooMany limit_kinds.Nesting)
nested (suc n) s = Ok s

-- a group begins: what its names say comes before the nesting, which its brace tells
unfoldable pub enter : List ℕ → Limits → ℕ → Token → Statements → Outcome
enter source limits n t s = entered source limits s >>= nested n

unfoldable pub open_library : ℕ → Token → Statements → Outcome
open_library n t s = nested n s

unfoldable pub name_library : List ℕ → Limits → Token → Statements → Outcome
name_library source limits t s =
    if is_too_long limits (content source t) then Err too_long else
    if is_name (content source t) then Ok (record s { name = Some t }) else
    Err (refusals.BadName t)

-- ---- groups end

abbrev pub left_cell : Statements → Statements
left_cell s = record s { level = levels.Library; cells = s.cells ++ record { word = s.cell_word; name = s.cell_name; groups = s.groups } ∷ []; groups = []; pin_names = [] }

abbrev pub left_read_group : Statements → Statements
left_read_group s = record s { level = levels.Cell; groups = s.groups ++ record { kind = s.group_kind; word = s.group_word; args = s.group_args; attributes = s.attributes } ∷ []; group_args = []; attributes = [] }

abbrev pub leave_level : Level → Statements → Statements
leave_level levels.Library s = s
leave_level levels.Cell s = left_cell s
leave_level levels.Group s = left_read_group s

unfoldable pub left_group : Statements → Statements
left_group s = if s.passed == 0 then leave_level s.level s else record s { passed = s.passed - 1 }

unfoldable pub close : List ℕ → Token → Statements → Outcome
close source t s = Ok (left_group (settled source s))
