pub mod Ports
pub mod Held
pub mod ModuleActions
pub mod ModuleGrammar
pub mod ModuleMoves
pub mod ModuleBounds
pub mod ModuleToCome
pub mod Driving
