-- What stands at the outputs of a source text's instances.
use Rattle.std.specs.Prelude.{List, [], ◌∷◌}
use Rattle.verilog_source.specs.declared.module.ModulePart.{ModulePart}
use Rattle.verilog_source.specs.declared.module.ModulePart.TheVariants.{Whole, Refused}
use Rattle.verilog_modules.specs.Driving.{DriveNets}

-- each output of each instance is a net, in all modules that are read
abbrev pub AllDriveNets : List ModulePart → Type 0
AllDriveNets [] = Unit {0}
AllDriveNets (Whole m ∷ parts) = DriveNets m.elements × AllDriveNets parts
AllDriveNets (Refused name construct line ∷ parts) = AllDriveNets parts
