-- What a token is for the grammar.
use Rattle.std.specs.Prelude.{ℕ, ◌+◌, ◌-◌, ◌==◌, ◌&&◌, ◌||◌, Bool, true, false, nat_le, if◌then◌else◌, List, length, map, codes, slice_range}
use Rattle.std.specs.Char.{to_ascii_lowercase}
use Rattle.std.specs.Str.{bytes_eq}
use Rattle.text_scan.specs.declared.limits.Limits.{Limits}
use Rattle.text_scan.specs.declared.token.Kind.{Kind}
use Rattle.text_scan.specs.declared.token.Kind.TheVariants as kinds
use Rattle.text_scan.specs.declared.token.Token.{Token}
use Rattle.file_rules.specs.Names.{is_name, is_too_long, shown_string, shown_word}
use Rattle.lef_tokens.specs.declared.look.Look.{Look}
use Rattle.lef_tokens.specs.declared.look.Look.TheVariants as looks

-- a token's bytes
unfoldable pub text : List ℕ → Token → List ℕ
text source t = slice_range source t.span.start t.span.end

-- ---- keywords

abbrev pub lowered : List ℕ → List ℕ
lowered word = map to_ascii_lowercase word

-- the same but for the case of ASCII letters
unfoldable pub is_same_word : List ℕ → List ℕ → Bool
is_same_word a b = bytes_eq (lowered a) (lowered b)

unfoldable pub three_look : List ℕ → Look
three_look w =
    if is_same_word w (codes "end") then looks.End else
    if is_same_word w (codes "pin") then looks.Pin else
    if is_same_word w (codes "obs") then looks.Shapes else
    if is_same_word w (codes "use") then looks.Use else
    if is_same_word w (codes "via") then looks.Section else
    looks.Other

unfoldable pub four_look : List ℕ → Look
four_look w =
    if is_same_word w (codes "port") then looks.Port else
    if is_same_word w (codes "size") then looks.Size else
    if is_same_word w (codes "site") then looks.Section else
    looks.Other

unfoldable pub five_look : List ℕ → Look
five_look w =
    if is_same_word w (codes "macro") then looks.Macro else
    if is_same_word w (codes "layer") || is_same_word w (codes "array") then looks.Section else
    if is_same_word w (codes "units") then looks.Block else
    if is_same_word w (codes "input") then looks.Input else
    if is_same_word w (codes "inout") then looks.Inout else
    if is_same_word w (codes "power") then looks.Power else
    if is_same_word w (codes "clock") then looks.Signal else
    looks.Other

unfoldable pub six_look : List ℕ → Look
six_look w =
    if is_same_word w (codes "output") then looks.Output else
    if is_same_word w (codes "signal") || is_same_word w (codes "analog") then looks.Signal else
    if is_same_word w (codes "ground") then looks.Ground else
    looks.Other

unfoldable pub seven_look : List ℕ → Look
seven_look w =
    if is_same_word w (codes "density") then looks.Shapes else
    if is_same_word w (codes "library") then looks.Library else
    if is_same_word w (codes "viarule") then looks.Section else
    if is_same_word w (codes "spacing") then looks.Block else
    looks.Other

unfoldable pub eight_look : List ℕ → Look
eight_look w =
    if is_same_word w (codes "feedthru") then looks.Feedthru else
    if is_same_word w (codes "tristate") then looks.Tristate else
    if is_same_word w (codes "beginext") then looks.Extension else
    looks.Other

unfoldable pub long_look : List ℕ → Look
long_look w =
    if is_same_word w (codes "direction") then looks.Direction else
    if is_same_word w (codes "nondefaultrule") then looks.Section else
    if is_same_word w (codes "propertydefinitions") then looks.Block else
    looks.Other

unfoldable pub longer_look : List ℕ → Look
longer_look w =
    if length w == 6 then six_look w else
    if length w == 7 then seven_look w else
    if length w == 8 then eight_look w else
    long_look w

unfoldable pub word_look : List ℕ → Look
word_look w =
    if length w == 3 then three_look w else
    if length w == 4 then four_look w else
    if length w == 5 then five_look w else
    longer_look w

abbrev pub kind_look : Kind → List ℕ → Look
kind_look kinds.Word w = word_look w
kind_look kinds.Str w = looks.Text
kind_look kinds.Sign w = looks.Barred
kind_look kinds.Unfinished w = looks.Barred
kind_look kinds.LineEnd w = looks.Barred
kind_look kinds.End w = looks.Over

unfoldable pub look_of : List ℕ → Token → Look
look_of source t = kind_look t.kind (text source t)

-- ---- tests of the grammar

abbrev pub not : Bool → Bool
not true = false
not false = true

abbrev pub is_end : Look → Bool
is_end looks.End = true
is_end _ = false

abbrev pub is_pin : Look → Bool
is_pin looks.Pin = true
is_pin _ = false

-- OBS or DENSITY
abbrev pub is_shapes : Look → Bool
is_shapes looks.Shapes = true
is_shapes _ = false

abbrev pub is_size : Look → Bool
is_size looks.Size = true
is_size _ = false

abbrev pub is_direction : Look → Bool
is_direction looks.Direction = true
is_direction _ = false

abbrev pub is_use : Look → Bool
is_use looks.Use = true
is_use _ = false

abbrev pub is_port : Look → Bool
is_port looks.Port = true
is_port _ = false

-- INPUT, OUTPUT, INOUT or FEEDTHRU
abbrev pub is_direction_word : Look → Bool
is_direction_word looks.Input = true
is_direction_word looks.Output = true
is_direction_word looks.Inout = true
is_direction_word looks.Feedthru = true
is_direction_word _ = false

abbrev pub is_output : Look → Bool
is_output looks.Output = true
is_output _ = false

abbrev pub is_tristate : Look → Bool
is_tristate looks.Tristate = true
is_tristate _ = false

-- SIGNAL, ANALOG, CLOCK, POWER or GROUND
abbrev pub is_use_word : Look → Bool
is_use_word looks.Signal = true
is_use_word looks.Power = true
is_use_word looks.Ground = true
is_use_word _ = false

abbrev pub is_macro : Look → Bool
is_macro looks.Macro = true
is_macro _ = false

-- LAYER, VIA, VIARULE, SITE, NONDEFAULTRULE or ARRAY
abbrev pub is_section : Look → Bool
is_section looks.Section = true
is_section _ = false

-- UNITS, PROPERTYDEFINITIONS or SPACING
abbrev pub is_block : Look → Bool
is_block looks.Block = true
is_block _ = false

-- BEGINEXT
abbrev pub is_extension : Look → Bool
is_extension looks.Extension = true
is_extension _ = false

abbrev pub is_library : Look → Bool
is_library looks.Library = true
is_library _ = false

-- the end of the text
abbrev pub is_over : Look → Bool
is_over looks.Over = true
is_over _ = false

-- begins what stands in a macro or a pin, and doesn't end it
abbrev pub is_statement : Look → Bool
is_statement looks.End = false
is_statement looks.Barred = false
is_statement looks.Over = false
is_statement _ = true

-- begins another statement outside macros, in a macro, in a pin
abbrev pub is_plain : Look → Bool
is_plain looks.Macro = false
is_plain looks.Section = false
is_plain looks.Block = false
is_plain looks.Extension = false
is_plain looks.End = false
is_plain looks.Barred = false
is_plain looks.Over = false
is_plain _ = true

abbrev pub is_macro_plain : Look → Bool
is_macro_plain looks.Pin = false
is_macro_plain looks.Shapes = false
is_macro_plain looks.Size = false
is_macro_plain looks.End = false
is_macro_plain looks.Barred = false
is_macro_plain looks.Over = false
is_macro_plain _ = true

abbrev pub is_pin_plain : Look → Bool
is_pin_plain looks.Direction = false
is_pin_plain looks.Use = false
is_pin_plain looks.Port = false
is_pin_plain looks.End = false
is_pin_plain looks.Barred = false
is_pin_plain looks.Over = false
is_pin_plain _ = true

-- a token that looks so
abbrev pub at : List ℕ → (Look → Bool) → Token → Bool
at source p t = p (look_of source t)

-- ---- words and strings

abbrev pub is_word_kind : Kind → Bool
is_word_kind kinds.Word = true
is_word_kind kinds.Str = false
is_word_kind kinds.Sign = false
is_word_kind kinds.Unfinished = false
is_word_kind kinds.LineEnd = false
is_word_kind kinds.End = false

abbrev pub is_passed_kind : Kind → Bool
is_passed_kind kinds.Word = true
is_passed_kind kinds.Str = true
is_passed_kind kinds.Sign = false
is_passed_kind kinds.Unfinished = false
is_passed_kind kinds.LineEnd = false
is_passed_kind kinds.End = false

-- a word or a string, which may be passed over
abbrev pub is_passed : Token → Bool
is_passed t = is_passed_kind t.kind

-- ---- names

-- a word that is a name, or longer than a name may be; strings are none
unfoldable pub can_name : List ℕ → Limits → Token → Bool
can_name source limits t = is_word_kind t.kind && (is_too_long limits (text source t) || is_name (text source t))

-- ---- the word by which a refused construct is shown

-- what stands between a string's quotes
unfoldable pub inside : List ℕ → Token → List ℕ
inside source t = slice_range source (t.span.start + 1) (t.span.end - 1)

abbrev pub kind_word : Kind → List ℕ → List ℕ → List ℕ
kind_word kinds.Str word string = shown_string string
kind_word kinds.Word word string = shown_word word
kind_word kinds.Sign word string = shown_word word
kind_word kinds.Unfinished word string = shown_word word
kind_word kinds.LineEnd word string = shown_word word
kind_word kinds.End word string = shown_word word

-- a string is shown by its content where that is a name
unfoldable pub word_of : List ℕ → Token → List ℕ
word_of source t = kind_word t.kind (text source t) (inside source t)
