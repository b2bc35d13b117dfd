-- What a cell makes of its statements: its pins, supplies and state, or the first thing in it that isn't read.
use Rattle.std.specs.Prelude.{ℕ, Bool, true, false, ◌==◌, ◌&&◌, ◌||◌, nat_lt, nat_le, if◌then◌else◌, List, [], ◌∷◌, ◌++◌, length, map, codes, Option, Some, None}
use Rattle.std.specs.Str.{bytes_eq}
use Rattle.std.specs.List.{list_all}
use Rattle.text_scan.specs.declared.token.Token.{Token}
use Rattle.text_scan.specs.declared.pins.Direction.{Direction}
use Rattle.text_scan.specs.declared.pins.Direction.TheVariants as directions
use Rattle.text_scan.specs.declared.pins.PinKind.{PinKind}
use Rattle.text_scan.specs.declared.pins.PinKind.TheVariants as pin_kinds
use Rattle.liberty_source.specs.declared.Both.{Both}
use Rattle.liberty_source.specs.declared.Both.TheVariants as boths
use Rattle.liberty_source.specs.declared.LibertyPin.{LibertyPin}
use Rattle.liberty_source.specs.declared.LibertyCell.{LibertyCell}
use Rattle.liberty_source.specs.declared.FfText.{FfText}
use Rattle.liberty_source.specs.declared.LatchText.{LatchText}
use Rattle.liberty_source.specs.declared.RowsText.{RowsText}
use Rattle.liberty_source.specs.declared.StateGroup.{StateGroup}
use Rattle.liberty_source.specs.declared.StateGroup.TheVariants as states
use Rattle.liberty_source.specs.declared.CellPart.{CellPart}
use Rattle.liberty_source.specs.declared.CellPart.TheVariants as parts
use Rattle.liberty_source.specs.declared.Library.{Library}
use Rattle.liberty_tokens.specs.declared.kinds.GroupKind.{GroupKind}
use Rattle.liberty_tokens.specs.declared.kinds.GroupKind.TheVariants as groups
use Rattle.liberty_tokens.specs.declared.kinds.AttributeKind.{AttributeKind}
use Rattle.liberty_tokens.specs.declared.kinds.AttributeKind.TheVariants as attributes
use Rattle.liberty_statements.specs.declared.statements.Attribute.{Attribute}
use Rattle.liberty_statements.specs.declared.statements.Group.{Group}
use Rattle.liberty_statements.specs.declared.statements.CellText.{CellText}
use Rattle.liberty_statements.specs.declared.statements.Statements.{Statements}
use Rattle.liberty_reader.specs.declared.cell.Slots.{Slots}
use Rattle.liberty_reader.specs.declared.cell.Construct.{Construct}
use Rattle.liberty_tokens.specs.Looks.{text}
use Rattle.file_rules.specs.Names.{is_name, shown_string, shown_word}
use Rattle.liberty_tokens.specs.Names.{content, is_string, columns}
use Rattle.liberty_statements.specs.Actions.{value_text}

-- ---- attributes: the last of each kind counts

abbrev pub no_slots : Slots
no_slots = record {
  direction = None;
  function = None;
  state_function = None;
  internal_node = None;
  input_map = None;
  three_state = None;
  pg_type = None;
  next_state = None;
  clocked_on = None;
  clocked_on_also = None;
  enable = None;
  data_in = None;
  clear = None;
  preset = None;
  first_both = None;
  second_both = None;
  table = None;
}

abbrev pub put : AttributeKind → Attribute → Slots → Slots
put attributes.Direction a s = record s { direction = Some a }
put attributes.Function a s = record s { function = Some a }
put attributes.StateFunction a s = record s { state_function = Some a }
put attributes.InternalNode a s = record s { internal_node = Some a }
put attributes.InputMap a s = record s { input_map = Some a }
put attributes.ThreeState a s = record s { three_state = Some a }
put attributes.PgType a s = record s { pg_type = Some a }
put attributes.NextState a s = record s { next_state = Some a }
put attributes.ClockedOn a s = record s { clocked_on = Some a }
put attributes.ClockedOnAlso a s = record s { clocked_on_also = Some a }
put attributes.Enable a s = record s { enable = Some a }
put attributes.DataIn a s = record s { data_in = Some a }
put attributes.Clear a s = record s { clear = Some a }
put attributes.Preset a s = record s { preset = Some a }
put attributes.FirstBoth a s = record s { first_both = Some a }
put attributes.SecondBoth a s = record s { second_both = Some a }
put attributes.Table a s = record s { table = Some a }
put attributes.Other a s = s

-- the last attribute of each kind after these
abbrev pub slots_from : List Attribute → Slots → Slots
slots_from [] s = s
slots_from (a ∷ xs) s = slots_from xs (put a.kind a s)

unfoldable pub last_of : List Attribute → Slots
last_of xs = slots_from xs no_slots

abbrev pub shown_value : List ℕ → Option Attribute → Option (List ℕ)
shown_value source None = None
shown_value source (Some a) = Some (value_text source a.value)

-- ---- refused constructs, by the token at which they stand and the one whose word is shown

abbrev pub at_word : Token → Construct
at_word t = record { place = t; word = t }

-- the value, shown by the word of its first token
abbrev pub at_value : Attribute → Construct
at_value a = record { place = a.value.first; word = a.value.first }

abbrev pub stands_before : Construct → Construct → Bool
stands_before a b = nat_lt a.place.span.start b.place.span.start

-- the one that stands first
abbrev pub earlier : Option Construct → Option Construct → Option Construct
earlier None b = b
earlier (Some a) None = Some a
earlier (Some a) (Some b) = if stands_before b a then Some b else Some a

-- an attribute that is refused wherever it stands
abbrev pub refuses_word : Option Attribute → Option Construct
refuses_word None = None
refuses_word (Some a) = Some (at_word a.word)

abbrev pub direction_of : List ℕ → Direction
direction_of v =
    if bytes_eq v (codes "input") then directions.Input else
    if bytes_eq v (codes "output") then directions.Output else
    if bytes_eq v (codes "internal") then directions.Internal else
    directions.Absent

abbrev pub is_absent : Direction → Bool
is_absent directions.Absent = true
is_absent _ = false

abbrev pub is_power : List ℕ → Bool
is_power v = bytes_eq v (codes "primary_power") || bytes_eq v (codes "nwell")

abbrev pub is_ground : List ℕ → Bool
is_ground v = bytes_eq v (codes "primary_ground") || bytes_eq v (codes "pwell")

-- the first argument that is no name
abbrev pub bad_arg : List ℕ → List Token → Option Construct
bad_arg source [] = None
bad_arg source (t ∷ ts) = if is_name (content source t) then bad_arg source ts else Some (at_word t)

abbrev pub refuses_direction : List ℕ → Token → Option Attribute → Option Construct
refuses_direction source word None = Some (at_word word)
refuses_direction source word (Some a) = if is_absent (direction_of (value_text source a.value)) then Some (at_value a) else None

abbrev pub refuses_node : List ℕ → Option Attribute → Option Construct
refuses_node source None = None
refuses_node source (Some a) = if is_name (value_text source a.value) then None else Some (at_value a)

abbrev pub refuses_supply : List ℕ → Token → Option Attribute → Option Construct
refuses_supply source word None = Some (at_word word)
refuses_supply source word (Some a) = if is_power (value_text source a.value) || is_ground (value_text source a.value) then None else Some (at_value a)

abbrev pub is_both : List ℕ → Bool
is_both v = bytes_eq v (codes "L") || bytes_eq v (codes "H") || bytes_eq v (codes "N") || bytes_eq v (codes "X")

abbrev pub refuses_both : List ℕ → Option Attribute → Option Construct
refuses_both source None = None
refuses_both source (Some a) = if is_both (value_text source a.value) then None else Some (at_word a.word)

-- two arguments that are names
abbrev pub are_variables : List ℕ → List Token → Bool
are_variables source ts = length ts == 2 && list_all (λ t. is_name (content source t)) ts

-- two strings
abbrev pub are_strings : List Token → Bool
are_strings ts = length ts == 2 && list_all (λ t. is_string t.kind) ts

-- a column that is no name, shown by its string
abbrev pub bad_column : List ℕ → List Token → Option Construct
bad_column source [] = None
bad_column source (t ∷ ts) = if list_all is_name (columns (content source t)) then bad_column source ts else Some (at_word t)

abbrev pub refuses_state : List ℕ → Slots → Option Construct
refuses_state source s = earlier (refuses_word s.clocked_on_also) (earlier (refuses_both source s.first_both) (refuses_both source s.second_both))

abbrev pub refuses_second : Bool → Token → Option Construct → Option Construct
refuses_second second word next = if second then Some (at_word word) else next

abbrev pub refuses_pin : List ℕ → Token → List Token → Slots → Option Construct
refuses_pin source word args s = earlier (bad_arg source args) (earlier (refuses_direction source word s.direction) (earlier (refuses_node source s.internal_node) (earlier (refuses_word s.input_map) (refuses_word s.three_state))))

abbrev pub refuses_pg_pin : List ℕ → Token → List Token → Slots → Option Construct
refuses_pg_pin source word args s = earlier (bad_arg source args) (refuses_supply source word s.pg_type)

abbrev pub refuses_storage : List ℕ → Bool → Token → List Token → Slots → Option Construct
refuses_storage source second word args s = refuses_second second word (if are_variables source args then refuses_state source s else Some (at_word word))

abbrev pub refuses_rows : List ℕ → Bool → Token → List Token → Option Construct
refuses_rows source second word args = refuses_second second word (if are_strings args then bad_column source args else Some (at_word word))

-- the first thing in a group that isn't read; a state group is second where one stands before it
unfoldable pub refuses : List ℕ → Bool → GroupKind → Token → List Token → Slots → Option Construct
refuses source second groups.Pin word args s = refuses_pin source word args s
refuses source second groups.PgPin word args s = refuses_pg_pin source word args s
refuses source second groups.Ff word args s = refuses_storage source second word args s
refuses source second groups.Latch word args s = refuses_storage source second word args s
refuses source second groups.StateTable word args s = refuses_rows source second word args
refuses source second groups.Unread word args s = Some (at_word word)
refuses source second groups.Other word args s = None

abbrev pub group_refuses : List ℕ → Bool → Group → Option Construct
group_refuses source second g = refuses source second g.kind g.word g.args (last_of g.attributes)

abbrev pub is_state : GroupKind → Bool
is_state groups.Ff = true
is_state groups.Latch = true
is_state groups.StateTable = true
is_state _ = false

abbrev pub or_first : Option Construct → Option Construct → Option Construct
or_first None rest = rest
or_first (Some c) rest = Some c

-- the first thing in a cell that isn't read
abbrev pub first_refused : List ℕ → Bool → List Group → Option Construct
first_refused source second [] = None
first_refused source second (g ∷ gs) = or_first (group_refuses source second g) (first_refused source (second || is_state g.kind) gs)

-- ---- the words of constructs

-- a string is shown by its content where that is a name
unfoldable pub word_of : List ℕ → Token → List ℕ
word_of source t = if is_string t.kind
    then shown_string (content source t)
    else shown_word (text source t)

-- ---- pins

abbrev pub kind_of : List ℕ → PinKind
kind_of v = if is_power v then pin_kinds.Power else pin_kinds.Ground

abbrev pub supply_kind : List ℕ → Option Attribute → PinKind
supply_kind source None = pin_kinds.Ground
supply_kind source (Some a) = kind_of (value_text source a.value)

abbrev pub pin_direction : List ℕ → Option Attribute → Direction
pin_direction source None = directions.Absent
pin_direction source (Some a) = direction_of (value_text source a.value)

unfoldable pub pin : List ℕ → Slots → Token → LibertyPin
pin source s t = record {
  name = content source t;
  direction = pin_direction source s.direction;
  kind = pin_kinds.Signal;
  function = shown_value source s.function;
  state_function = shown_value source s.state_function;
  internal_node = shown_value source s.internal_node;
}

unfoldable pub supply : List ℕ → Slots → Token → LibertyPin
supply source s t = record {
  name = content source t;
  direction = directions.Absent;
  kind = supply_kind source s.pg_type;
  function = None;
  state_function = None;
  internal_node = None;
}

abbrev pub group_pins : List ℕ → GroupKind → List Token → Slots → List LibertyPin
group_pins source groups.Pin args s = map (pin source s) args
group_pins source groups.PgPin args s = map (supply source s) args
group_pins source _ args s = []

abbrev pub pins_of : List ℕ → Group → List LibertyPin
pins_of source g = group_pins source g.kind g.args (last_of g.attributes)

abbrev pub pins : List ℕ → List Group → List LibertyPin
pins source [] = []
pins source (g ∷ gs) = pins_of source g ++ pins source gs

-- ---- the state

abbrev pub both_of : List ℕ → Both
both_of v =
    if bytes_eq v (codes "L") then boths.Low else
    if bytes_eq v (codes "H") then boths.High else
    if bytes_eq v (codes "N") then boths.Keep else
    boths.Unknown

abbrev pub both : List ℕ → Option Attribute → Both
both source None = boths.Unknown
both source (Some a) = both_of (value_text source a.value)

abbrev pub table_text : List ℕ → Option Attribute → List ℕ
table_text source None = []
table_text source (Some a) = value_text source a.value

abbrev pub two_contents : List ℕ → Token → Token → List (List ℕ)
two_contents source a b = content source a ∷ content source b ∷ []

abbrev pub two_boths : List ℕ → Slots → List Both
two_boths source s = both source s.first_both ∷ both source s.second_both ∷ []

abbrev pub flip_flop : List ℕ → Token → Token → Token → Slots → FfText
flip_flop source word a b s = record {
  line = word.span.line;
  variables = two_contents source a b;
  next_state = shown_value source s.next_state;
  clocked_on = shown_value source s.clocked_on;
  clear = shown_value source s.clear;
  preset = shown_value source s.preset;
  both = two_boths source s;
}

abbrev pub latch : List ℕ → Token → Token → Token → Slots → LatchText
latch source word a b s = record {
  line = word.span.line;
  variables = two_contents source a b;
  enable = shown_value source s.enable;
  data_in = shown_value source s.data_in;
  clear = shown_value source s.clear;
  preset = shown_value source s.preset;
  both = two_boths source s;
}

abbrev pub rows : List ℕ → Token → Token → Token → Slots → RowsText
rows source word a b s = record {
  line = word.span.line;
  inputs = columns (content source a);
  nodes = columns (content source b);
  table = table_text source s.table;
}

abbrev pub state_by : List ℕ → GroupKind → Token → Token → Token → Slots → StateGroup → StateGroup
state_by source groups.Ff word a b s before = states.Ff (flip_flop source word a b s)
state_by source groups.Latch word a b s before = states.Latch (latch source word a b s)
state_by source groups.StateTable word a b s before = states.Rows (rows source word a b s)
state_by source _ word a b s before = before

-- a group of two arguments as the state
abbrev pub state_of_two : List ℕ → Group → Token → Token → StateGroup → StateGroup
state_of_two source g a b before = state_by source g.kind g.word a b (last_of g.attributes) before

unfoldable pub group_state : List ℕ → Group → List Token → StateGroup → StateGroup
group_state source g (a ∷ b ∷ []) before = state_of_two source g a b before
group_state source g [] before = before
group_state source g (a ∷ []) before = before
group_state source g (a ∷ b ∷ c ∷ cs) before = before

abbrev pub state : List ℕ → List Group → StateGroup → StateGroup
state source [] before = before
state source (g ∷ gs) before = state source gs (group_state source g g.args before)

-- ---- cells and the library

abbrev pub whole : List ℕ → CellText → LibertyCell
whole source cell = record { name = content source cell.name; line = cell.word.span.line; pins = pins source cell.groups; state = state source cell.groups states.Stateless }

abbrev pub refused : List ℕ → CellText → Construct → CellPart
refused source cell c = parts.Refused (content source cell.name) (word_of source c.word) c.word.span.line

abbrev pub part : List ℕ → CellText → Option Construct → CellPart
part source cell None = parts.Whole (whole source cell)
part source cell (Some c) = refused source cell c

unfoldable pub cell_part : List ℕ → CellText → CellPart
cell_part source cell = part source cell (first_refused source false cell.groups)

abbrev pub library_name : List ℕ → Option Token → List ℕ
library_name source None = []
library_name source (Some t) = content source t

-- what the statements of a library say
unfoldable pub library : List ℕ → Statements → Library
library source s = record { name = library_name source s.name; cells = map (cell_part source) s.cells }
