-- What a LEF file holds that was read of a text: names, pins with directions, and words that can be shown.
use Rattle.std.specs.Prelude.{◌≡◌, ◌≤◌, ℕ, Bool, true, false, ◌&&◌, List, length, map}
use Rattle.std.specs.List.{list_all}
use Rattle.text_scan.specs.declared.limits.Limits.{Limits}
use Rattle.text_scan.specs.declared.pins.Direction.{Direction}
use Rattle.text_scan.specs.declared.pins.Direction.TheVariants.{Input, Output, Inout, Feedthru}
use Rattle.file_rules.specs.Names.{is_name_within, is_distinct, is_shown}
use Rattle.lef_source.specs.declared.Lef.{Lef}
use Rattle.lef_source.specs.declared.Macro.{Macro}
use Rattle.lef_source.specs.declared.MacroPart.{MacroPart}
use Rattle.lef_source.specs.declared.MacroPart.TheVariants.{Whole, Refused}
use Rattle.lef_source.specs.declared.MacroPin.{MacroPin}

abbrev pub macro_name : MacroPart → List ℕ
macro_name (Whole m) = m.name
macro_name (Refused name construct line) = name

abbrev pub pin_name : MacroPin → List ℕ
pin_name p = p.name

-- what DIRECTION can say
abbrev pub is_told_direction : Direction → Bool
is_told_direction Input = true
is_told_direction Output = true
is_told_direction Inout = true
is_told_direction Feedthru = true
is_told_direction _ = false

abbrev pub is_pin : Limits → MacroPin → Bool
is_pin limits p = is_name_within limits p.name && is_told_direction p.direction

abbrev pub is_macro : Limits → Macro → Bool
is_macro limits m = is_name_within limits m.name && list_all (is_pin limits) m.pins && is_distinct (map pin_name m.pins)

abbrev pub is_part : Limits → MacroPart → Bool
is_part limits (Whole m) = is_macro limits m
is_part limits (Refused name construct line) = is_name_within limits name && is_shown construct

-- Each name is a name within the limit, no macro has the name of another, and each is read whole, with no pin twice, or
-- refused with a word that can be shown.
pub record IsLef (limits : Limits) (lef : Lef) : Type 0 where
  pub few : length lef.macros ≤ limits.cells
  pub parts : list_all (is_part limits) lef.macros ≡ true
  pub distinct : is_distinct (map macro_name lef.macros) ≡ true
