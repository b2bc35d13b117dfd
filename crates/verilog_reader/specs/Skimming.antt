-- What a reader of a file passes over many at once.
use Rattle.std.specs.Prelude.{◌≡◌, Bool, true, false, ℕ, List, [], ◌++◌, map}
use Rattle.std.specs.List.{list_all}
use Rattle.text_scan.specs.declared.token.Token.{Token}
use Rattle.verilog_directives.specs.declared.left.Left.{Left}
use Rattle.verilog_directives.specs.declared.left.Role.TheVariants.{Plain}
use Rattle.verilog_directives.specs.Left.{item}
use Rattle.verilog_directives.specs.Skims.{is_filler}
use Rattle.verilog_modules.specs.declared.module_phase.ModulePhase.{ModulePhase}
use Rattle.verilog_modules.specs.declared.module_phase.ModulePhase.TheVariants as module_phases
use Rattle.verilog_reader.specs.declared.file_phase.FilePhase.{FilePhase}
use Rattle.verilog_reader.specs.declared.file_phase.FilePhase.TheVariants as phases
use Rattle.verilog_reader.specs.declared.file_reader.FileReader.{FileReader}

-- where all that stands before a word that begins with `end` is passed over: in specify blocks and in refused parts
abbrev pub passes_over : FilePhase → ModulePhase → Bool
passes_over phases.Rest p = true
passes_over phases.Module module_phases.Specify = true
passes_over _ _ = false

-- fillers were passed over between these lists, and none where the reader stands elsewhere
pub record IsSkimmed (source : List ℕ) (m : FileReader) (before after : List Left) : Type 0 where
  pub fillers : List Token
  pub front : before ≡ map (item Plain) fillers ++ after
  pub all : list_all (is_filler source) fillers ≡ true
  pub idle : passes_over m.phase m.module_reader.phase ≡ false → fillers ≡ []
