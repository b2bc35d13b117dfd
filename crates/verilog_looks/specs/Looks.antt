-- What an item of a Verilog text is for the grammar.
use Rattle.std.specs.Prelude.{ℕ, Bool, true, false, ◌==◌, ◌&&◌, ◌||◌, nat_le, if◌then◌else◌, List, [], ◌∷◌, length, codes, slice_range}
use Rattle.std.specs.Str.{bytes_eq}
use Rattle.std.specs.List.{list_all}
use Rattle.text_scan.specs.declared.token.Kind.{Kind}
use Rattle.text_scan.specs.declared.token.Kind.TheVariants as kinds
use Rattle.text_scan.specs.declared.token.Token.{Token}
use Rattle.text_scan.specs.Bytes.{is_digit}
use Rattle.verilog_directives.specs.declared.left.Left.{Left}
use Rattle.verilog_directives.specs.declared.left.Role.{Role}
use Rattle.verilog_directives.specs.declared.left.Role.TheVariants as roles
use Rattle.verilog_looks.specs.declared.look.Look.{Look}
use Rattle.verilog_looks.specs.declared.look.Look.TheVariants as looks

-- the bytes of a token
unfoldable pub text : List ℕ → Token → List ℕ
text source t = slice_range source t.span.start t.span.end

-- a byte outside 33 to 126 may stand nowhere
unfoldable pub other_look : ℕ → Look
other_look b = if nat_le 33 b && nat_le b 126 then looks.Other else looks.Barred

unfoldable pub sign_look : ℕ → Look
sign_look b =
    if b == 40 then looks.Open else
    if b == 41 then looks.Close else
    if b == 44 then looks.Comma else
    if b == 59 then looks.Semicolon else
    if b == 35 then looks.Hash else
    other_look b

-- ---- the grammar's own words, by their lengths

unfoldable pub three_look : List ℕ → Look
three_look w =
    if bytes_eq w (codes "and") || bytes_eq w (codes "nor") || bytes_eq w (codes "xor") then looks.Gate else
    if bytes_eq w (codes "not") || bytes_eq w (codes "buf") then looks.Buffer else
    if bytes_eq w (codes "reg") then looks.Reg else
    looks.Name

unfoldable pub four_look : List ℕ → Look
four_look w =
    if bytes_eq w (codes "nand") || bytes_eq w (codes "xnor") then looks.Gate else
    if bytes_eq w (codes "wire") then looks.Wire else
    looks.Name

unfoldable pub five_look : List ℕ → Look
five_look w =
    if bytes_eq w (codes "input") then looks.Input else
    if bytes_eq w (codes "inout") then looks.Inout else
    if bytes_eq w (codes "table") then looks.Table else
    looks.Name

unfoldable pub six_look : List ℕ → Look
six_look w =
    if bytes_eq w (codes "output") then looks.Output else
    if bytes_eq w (codes "module") then looks.Module else
    looks.Name

unfoldable pub seven_look : List ℕ → Look
seven_look w =
    if bytes_eq w (codes "supply0") then looks.Supply0 else
    if bytes_eq w (codes "supply1") then looks.Supply1 else
    if bytes_eq w (codes "specify") then looks.Specify else
    if bytes_eq w (codes "initial") then looks.Initial else
    looks.Name

unfoldable pub long_look : List ℕ → Look
long_look w =
    if bytes_eq w (codes "endtable") then looks.EndTable else
    if bytes_eq w (codes "endmodule") then looks.EndModule else
    if bytes_eq w (codes "primitive") then looks.Primitive else
    if bytes_eq w (codes "endspecify") then looks.EndSpecify else
    if bytes_eq w (codes "endprimitive") then looks.EndPrimitive else
    looks.Name

unfoldable pub longer_look : List ℕ → Look
longer_look w =
    if length w == 6 then six_look w else
    if length w == 7 then seven_look w else
    long_look w

unfoldable pub identifier_look : List ℕ → Look
identifier_look w =
    if length w == 2 then (if bytes_eq w (codes "or") then looks.Gate else looks.Name) else
    if length w == 3 then three_look w else
    if length w == 4 then four_look w else
    if length w == 5 then five_look w else
    longer_look w

-- the letters of a number are equal in both cases
unfoldable pub number_look : List ℕ → Look
number_look w =
    if bytes_eq w (codes "1'b0") || bytes_eq w (codes "1'B0") then looks.Zero else
    if bytes_eq w (codes "1'b1") || bytes_eq w (codes "1'B1") then looks.One else
    looks.Number

abbrev pub is_number_byte : ℕ → Bool
is_number_byte b = is_digit b

-- an escaped identifier is none of the grammar's words
unfoldable pub word_look : List ℕ → Look
word_look [] = looks.Number
word_look (b ∷ bs) =
    if b == 92 then looks.Name else
    if is_number_byte b then number_look (b ∷ bs) else
    identifier_look (b ∷ bs)

abbrev pub sign_of : List ℕ → Look
sign_of [] = looks.Barred
sign_of (b ∷ bs) = sign_look b

abbrev pub kind_look : Kind → List ℕ → Look
kind_look kinds.Word w = word_look w
kind_look kinds.Str w = looks.Other
kind_look kinds.Sign w = sign_of w
kind_look kinds.Unfinished w = looks.Barred
kind_look kinds.LineEnd w = looks.Barred
kind_look kinds.End w = looks.End

-- the text's end is no macro
abbrev pub macro_look : Kind → Look
macro_look kinds.End = looks.Barred
macro_look _ = looks.Macro

abbrev pub role_look : Role → Kind → List ℕ → Look
role_look roles.Plain kind w = kind_look kind w
role_look roles.Macro kind w = macro_look kind
role_look roles.Misplaced kind w = looks.Barred
role_look roles.TooDeep kind w = looks.Barred
role_look roles.LongName kind w = looks.Barred

unfoldable pub look_of : List ℕ → Left → Look
look_of source t = role_look t.role t.token.kind (text source t.token)

-- ---- tests

abbrev pub is_name : Look → Bool
is_name looks.Name = true
is_name _ = false

abbrev pub is_gate : Look → Bool
is_gate looks.Gate = true
is_gate _ = false

abbrev pub is_buffer : Look → Bool
is_buffer looks.Buffer = true
is_buffer _ = false

abbrev pub is_module : Look → Bool
is_module looks.Module = true
is_module _ = false

abbrev pub is_primitive : Look → Bool
is_primitive looks.Primitive = true
is_primitive _ = false

abbrev pub is_end_module : Look → Bool
is_end_module looks.EndModule = true
is_end_module _ = false

abbrev pub is_end_primitive : Look → Bool
is_end_primitive looks.EndPrimitive = true
is_end_primitive _ = false

-- endmodule or endprimitive
abbrev pub is_part_end : Look → Bool
is_part_end looks.EndModule = true
is_part_end looks.EndPrimitive = true
is_part_end _ = false

-- input, output or inout
abbrev pub is_direction : Look → Bool
is_direction looks.Input = true
is_direction looks.Output = true
is_direction looks.Inout = true
is_direction _ = false

abbrev pub is_input : Look → Bool
is_input looks.Input = true
is_input _ = false

abbrev pub is_output : Look → Bool
is_output looks.Output = true
is_output _ = false

abbrev pub is_reg : Look → Bool
is_reg looks.Reg = true
is_reg _ = false

-- wire or reg
abbrev pub is_net : Look → Bool
is_net looks.Wire = true
is_net looks.Reg = true
is_net _ = false

-- the word of a declaration of a module
abbrev pub is_declaration : Look → Bool
is_declaration looks.Input = true
is_declaration looks.Output = true
is_declaration looks.Inout = true
is_declaration looks.Wire = true
is_declaration looks.Reg = true
is_declaration looks.Supply0 = true
is_declaration looks.Supply1 = true
is_declaration _ = false

-- the word of a declaration of a primitive
abbrev pub is_udp_declaration : Look → Bool
is_udp_declaration looks.Input = true
is_udp_declaration looks.Output = true
is_udp_declaration looks.Reg = true
is_udp_declaration _ = false

abbrev pub is_specify : Look → Bool
is_specify looks.Specify = true
is_specify _ = false

abbrev pub is_end_specify : Look → Bool
is_end_specify looks.EndSpecify = true
is_end_specify _ = false

abbrev pub is_initial : Look → Bool
is_initial looks.Initial = true
is_initial _ = false

abbrev pub is_table : Look → Bool
is_table looks.Table = true
is_table _ = false

abbrev pub is_end_table : Look → Bool
is_end_table looks.EndTable = true
is_end_table _ = false

-- 1'b0 or 1'b1
abbrev pub is_constant : Look → Bool
is_constant looks.Zero = true
is_constant looks.One = true
is_constant _ = false

abbrev pub is_number : Look → Bool
is_number looks.Zero = true
is_number looks.One = true
is_number looks.Number = true
is_number _ = false

abbrev pub is_open : Look → Bool
is_open looks.Open = true
is_open _ = false

abbrev pub is_close : Look → Bool
is_close looks.Close = true
is_close _ = false

abbrev pub is_comma : Look → Bool
is_comma looks.Comma = true
is_comma _ = false

abbrev pub is_semicolon : Look → Bool
is_semicolon looks.Semicolon = true
is_semicolon _ = false

abbrev pub is_hash : Look → Bool
is_hash looks.Hash = true
is_hash _ = false

abbrev pub is_macro : Look → Bool
is_macro looks.Macro = true
is_macro _ = false

abbrev pub is_end : Look → Bool
is_end looks.End = true
is_end _ = false

-- what may stand in what is passed over: anything but the text's end and what may stand nowhere
abbrev pub is_passed : Look → Bool
is_passed looks.Barred = false
is_passed looks.End = false
is_passed _ = true

-- what is passed over between the parentheses of a delay, but for parentheses
abbrev pub is_between : Look → Bool
is_between looks.Open = false
is_between looks.Close = false
is_between looks.Barred = false
is_between looks.End = false
is_between _ = true

-- what is passed over before endspecify, but for macros
abbrev pub is_specified : Look → Bool
is_specified looks.EndSpecify = false
is_specified looks.Macro = false
is_specified looks.Barred = false
is_specified looks.End = false
is_specified _ = true

-- what is passed over before a semicolon
abbrev pub is_stated : Look → Bool
is_stated looks.Semicolon = false
is_stated looks.Barred = false
is_stated looks.End = false
is_stated _ = true

-- what is passed over before the end of a part
abbrev pub is_unread : Look → Bool
is_unread looks.EndModule = false
is_unread looks.EndPrimitive = false
is_unread looks.Barred = false
is_unread looks.End = false
is_unread _ = true

-- what may be symbols of a table, by its bytes
abbrev pub is_symbolic : Look → Bool
is_symbolic looks.Name = true
is_symbolic looks.Zero = true
is_symbolic looks.One = true
is_symbolic looks.Number = true
is_symbolic looks.Open = true
is_symbolic looks.Close = true
is_symbolic looks.Other = true
is_symbolic _ = false

-- 0 1 x X ? b B - r R f F p P n N * : ( )
unfoldable pub is_symbol : ℕ → Bool
is_symbol b =
    b == 48 || b == 49 || b == 120 || b == 88 || b == 63 || b == 98 || b == 66 || b == 45 || b == 114 || b == 82 || b == 102
    || b == 70 || b == 112 || b == 80 || b == 110 || b == 78 || b == 42 || b == 58 || b == 40 || b == 41

abbrev pub has_symbols : List ℕ → Bool
has_symbols bs = list_all is_symbol bs

-- a symbol of a table, or several
unfoldable pub are_symbols : List ℕ → Left → Bool
are_symbols source t = is_symbolic (look_of source t) && has_symbols (text source t.token)
