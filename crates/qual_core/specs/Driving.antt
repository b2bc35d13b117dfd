-- What stands at the outputs of the instances that a source text gives.
use Rattle.std.specs.Prelude.{List, [], ◌∷◌}
use Rattle.verilog_source.specs.declared.module.ModulePart.{ModulePart}
use Rattle.verilog_source.specs.declared.module.ModulePart.TheVariants.{Whole, Refused}
use Rattle.module_net.specs.Elements.{DriveNets}

-- constants stand in the places of inputs alone, in all modules that are read
abbrev pub AllDriveNets : List ModulePart → Type 0
AllDriveNets [] = Unit {0}
AllDriveNets (Whole m ∷ parts) = DriveNets m.elements × AllDriveNets parts
AllDriveNets (Refused name construct line ∷ parts) = AllDriveNets parts
