-- What the tokens of a macro leave, or why they refuse.
use Rattle.std.specs.Prelude.{ℕ, if◌then◌else◌, List, [], ◌∷◌, ◌++◌, None, Result, Ok, Err}
use Rattle.text_scan.specs.declared.pins.Direction.{Direction}
use Rattle.text_scan.specs.declared.pins.Direction.TheVariants as directions
use Rattle.text_scan.specs.declared.pins.PinKind.{PinKind}
use Rattle.text_scan.specs.declared.pins.PinKind.TheVariants as pin_kinds
use Rattle.text_scan.specs.declared.limits.Limits.{Limits}
use Rattle.text_scan.specs.declared.token.Token.{Token}
use Rattle.name_index.specs.Places.{is_known}
use Rattle.file_rules.specs.Names.{is_too_long}
use Rattle.lef_source.specs.declared.Macro.{Macro}
use Rattle.lef_source.specs.declared.MacroPin.{MacroPin}
use Rattle.lef_reader.specs.declared.halt.Refusal.{Refusal}
use Rattle.lef_reader.specs.declared.halt.Refusal.TheVariants as refusals
use Rattle.lef_tokens.specs.declared.look.Look.{Look}
use Rattle.lef_tokens.specs.declared.look.Look.TheVariants as looks
use Rattle.lef_reader.specs.declared.macro_text.MacroText.{MacroText}
use Rattle.lef_tokens.specs.Looks.{text, look_of}
use Rattle.lef_reader.specs.Passing.{extended, kept_text, kept_size, is_name_of}

abbrev pub Outcome : Type 0
Outcome = Result MacroText Refusal

-- a pin without statements
abbrev pub no_pin : List ℕ → MacroPin
no_pin name = record { name = name; direction = directions.Input; kind = pin_kinds.Signal; ports = [] }

-- nothing is read
abbrev pub no_macro : MacroText
no_macro = record { names = []; pins = []; size = None; pin = no_pin []; port = None }

abbrev pub keep : Token → MacroText → Outcome
keep t m = Ok m

-- ---- SIZE

abbrev pub begin_size : Token → MacroText → Outcome
begin_size t m = Ok (record m { size = None })

abbrev pub grow_size : Token → MacroText → Outcome
grow_size t m = Ok (record m { size = extended m.size t })

-- ---- pins

-- the name's length comes first, then whether it is new
unfoldable pub name_pin : List ℕ → Limits → Token → MacroText → Outcome
name_pin source limits t m =
    if is_too_long limits (text source t) then Err refusals.LongName else
    if is_known (text source t) m.names then Err refusals.DoubleName else
    Ok (record m { names = m.names ++ text source t ∷ []; pin = no_pin (text source t) })

abbrev pub direction_of : Look → Direction
direction_of looks.Output = directions.Output
direction_of looks.Inout = directions.Inout
direction_of looks.Feedthru = directions.Feedthru
direction_of _ = directions.Input

unfoldable pub set_direction : List ℕ → Token → MacroText → Outcome
set_direction source t m = Ok (record m { pin = record m.pin { direction = direction_of (look_of source t) } })

-- POWER and GROUND are supplies
abbrev pub kind_of : Look → PinKind
kind_of looks.Power = pin_kinds.Power
kind_of looks.Ground = pin_kinds.Ground
kind_of _ = pin_kinds.Signal

unfoldable pub set_kind : List ℕ → Token → MacroText → Outcome
set_kind source t m = Ok (record m { pin = record m.pin { kind = kind_of (look_of source t) } })

abbrev pub begin_port : Token → MacroText → Outcome
begin_port t m = Ok (record m { port = None })

abbrev pub grow_port : Token → MacroText → Outcome
grow_port t m = Ok (record m { port = extended m.port t })

abbrev pub with_port : List ℕ → MacroText → MacroText
with_port source m = record m { pin = record m.pin { ports = m.pin.ports ++ kept_text source m.port ∷ [] }; port = None }

abbrev pub end_port : List ℕ → Token → MacroText → Outcome
end_port source t m = Ok (with_port source m)

-- ---- ends

abbrev pub with_pin : MacroText → MacroText
with_pin m = record m { pins = m.pins ++ m.pin ∷ []; pin = no_pin [] }

-- END and the pin's name; another word refuses the macro
unfoldable pub end_pin : List ℕ → Token → Token → MacroText → Outcome
end_pin source name t m = if is_name_of source name t then Ok (with_pin m) else Err refusals.OtherEnd

-- END and the macro's name
unfoldable pub end_macro : List ℕ → Token → Token → MacroText → Outcome
end_macro source name t m = if is_name_of source name t then Ok m else Err refusals.OtherEnd

-- the macro of this name
abbrev pub macro_of : List ℕ → List ℕ → MacroText → Macro
macro_of source name m = record { name = name; size = kept_size source m.size; pins = m.pins }
