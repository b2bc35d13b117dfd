-- What a view breaks at one of Liberty's pins.
use Rattle.std.specs.Prelude.{Bool, true, false, not, ◌&&◌, if◌then◌else◌, Option, Some, None}
use Rattle.text_scan.specs.declared.pins.Direction.{Direction}
use Rattle.text_scan.specs.declared.pins.Direction.TheVariants.{Input, Output, Inout, Feedthru, Internal, Absent}
use Rattle.text_scan.specs.declared.pins.PinKind.{PinKind}
use Rattle.text_scan.specs.declared.pins.PinKind.TheVariants.{Signal, Power, Ground}
use Rattle.verdict_text.specs.declared.finding.View.{View}
use Rattle.verdict_text.specs.declared.finding.View.TheVariants.{Verilog, Lef}
use Rattle.verdict_text.specs.declared.finding.Code.{Code}
use Rattle.verdict_text.specs.declared.finding.Code.TheVariants.{P2, P3, P4}
use Rattle.pin_tables.specs.declared.table.Role.{Role}

abbrev pub is_supply : PinKind → Bool
is_supply Signal = false
is_supply Power = true
is_supply Ground = true

abbrev pub is_verilog : View → Bool
is_verilog Verilog = true
is_verilog v = false

abbrev pub is_lef : View → Bool
is_lef Lef = true
is_lef v = false

-- the view has a direction, and another than Liberty
abbrev pub is_turned : Direction → Direction → Bool
is_turned Input Input = false
is_turned Output Output = false
is_turned Inout Inout = false
is_turned Feedthru Feedthru = false
is_turned Internal Internal = false
is_turned liberty Absent = false
is_turned liberty view = true

abbrev pub is_other_kind : PinKind → PinKind → Bool
is_other_kind Signal Signal = false
is_other_kind Power Power = false
is_other_kind Ground Ground = false
is_other_kind liberty view = true

-- The code of what the view breaks, which says this of Liberty's pin or lacks it. Verilog need not have supplies, whose
-- direction counts nowhere; kinds count in LEF alone.
abbrev pub broken : View → Role → Option Role → Option Code
broken view liberty None = if is_verilog view && is_supply liberty.kind then None else Some P2
broken view liberty (Some said) =
    if not (is_supply liberty.kind) && is_turned liberty.direction said.direction then Some P3
    else (if is_lef view && is_other_kind liberty.kind said.kind then Some P4 else None)
