-- What an item changes in a reader of a file.
use Rattle.std.specs.Prelude.{ℕ, Bool, true, false, ◌==◌, if◌then◌else◌, List, [], ◌∷◌, Result, Ok, Err}
use Rattle.text_scan.specs.declared.limits.Limits.{Limits}
use Rattle.text_scan.specs.declared.refusal.FileRefusal.{FileRefusal}
use Rattle.verilog_directives.specs.declared.left.Left.{Left}
use Rattle.verilog_looks.specs.declared.halt.Halt.{Halt}
use Rattle.verilog_looks.specs.declared.halt.Halt.TheVariants as halts
use Rattle.verilog_looks.specs.declared.halt.Refusal.{Refusal}
use Rattle.verilog_looks.specs.declared.halt.Refusal.TheVariants as refusals
use Rattle.verilog_looks.specs.declared.look.Look.{Look}
use Rattle.verilog_looks.specs.declared.look.Look.TheVariants as looks
use Rattle.verilog_modules.specs.declared.module_reader.ModuleReader.{ModuleReader}
use Rattle.verilog_primitives.specs.declared.udp_reader.UdpReader.{UdpReader}
use Rattle.verilog_looks.specs.Looks.{look_of, is_passed}
use Rattle.verilog_looks.specs.Names.{word_of}
use Rattle.verilog_modules.specs.ModuleMoves as modules
use Rattle.verilog_primitives.specs.UdpMoves as udps
use Rattle.verilog_reader.specs.declared.file_text.FileText.{FileText}
use Rattle.verilog_reader.specs.declared.file_phase.FilePhase.{FilePhase}
use Rattle.verilog_reader.specs.declared.file_phase.FilePhase.TheVariants as phases
use Rattle.verilog_reader.specs.declared.file_phase.FileAction.TheVariants as actions
use Rattle.verilog_reader.specs.declared.file_phase.FileMove.{FileMove}
use Rattle.verilog_reader.specs.declared.file_phase.FileMove.TheVariants.{Stop, Go}
use Rattle.verilog_reader.specs.declared.file_reader.FileReader.{FileReader}
use Rattle.verilog_reader.specs.FileActions.{FileOutcome, no_file, perform_file, whole_module, refused_module, whole_udp, refused_udp}
use Rattle.verilog_reader.specs.Refusals.{item_refusal, told_refusal}

abbrev pub Stepped : Type 0
Stepped = Result FileReader FileRefusal

-- ---- outside parts

abbrev pub at_top : ℕ → Look → FileMove
at_top line looks.Macro = Go actions.BeginLine (phases.Line line)
at_top line looks.Module = Go actions.CountModule phases.ModuleWord
at_top line looks.Primitive = Go actions.CountPrimitive phases.PrimitiveWord
at_top line looks.End = Go actions.End phases.Done
at_top line _ = Stop

-- an item on the line that is passed over, which ends with the text if not before
abbrev pub on_line : ℕ → ℕ → Look → FileMove
on_line begun line looks.Barred = Stop
on_line begun line looks.End = at_top line looks.End
on_line begun line _ = Go actions.Keep (phases.Line begun)

abbrev pub at_line : Bool → ℕ → ℕ → Look → FileMove
at_line true begun line l = on_line begun line l
at_line false begun line l = at_top line l

abbrev pub at_module_word : Look → FileMove
at_module_word looks.Name = Go actions.NameModule phases.Module
at_module_word _ = Stop

abbrev pub at_primitive_word : Look → FileMove
at_primitive_word looks.Name = Go actions.NamePrimitive phases.Primitive
at_primitive_word _ = Stop

abbrev pub file_move : FilePhase → ℕ → Look → FileMove
file_move phases.Top line l = at_top line l
file_move (phases.Line begun) line l = at_line (line == begun) begun line l
file_move phases.ModuleWord line l = at_module_word l
file_move phases.PrimitiveWord line l = at_primitive_word l
file_move _ line l = Stop

abbrev pub moved : List ℕ → Limits → Left → FileReader → FilePhase → FileOutcome → Stepped
moved source limits t m p (Ok f) = Ok (record { phase = p; text = f; module_reader = modules.begun; udp_reader = udps.begun })
moved source limits t m p (Err e) = Err (told_refusal source limits e (t ∷ []))

abbrev pub outside_step : List ℕ → Limits → Left → FileReader → FileMove → Stepped
outside_step source limits t m Stop = Err (item_refusal limits t)
outside_step source limits t m (Go a p) = moved source limits t m p (perform_file source limits a t m.text)

-- ---- the rest of a part that is refused

abbrev pub rest_step : Limits → Left → Look → FileReader → Stepped
rest_step limits t looks.EndModule m = Ok (record m { phase = phases.Top })
rest_step limits t looks.EndPrimitive m = Ok (record m { phase = phases.Top })
rest_step limits t looks.Barred m = Err (item_refusal limits t)
rest_step limits t looks.End m = Err (item_refusal limits t)
rest_step limits t _ m = Ok (record m { phase = phases.Rest })

-- in a part that is refused
abbrev pub skipping : FileReader → FileReader
skipping m = record { phase = phases.Rest; text = m.text; module_reader = modules.begun; udp_reader = udps.begun }

-- a part is refused at an item, from which on its rest is passed over
abbrev pub skipped : List ℕ → Limits → Left → FileReader → FileText → Stepped
skipped source limits t m f = rest_step limits t (look_of source t) (record { phase = phases.Rest; text = f; module_reader = modules.begun; udp_reader = udps.begun })

-- ---- modules

abbrev pub end_module : FileReader → ModuleReader → FileReader
end_module m r = record m { phase = phases.Top; text = whole_module m.text r.text; module_reader = modules.begun }

abbrev pub ended_module : FileReader → Stepped
ended_module m = Ok (end_module m m.module_reader)

abbrev pub refuse_module : List ℕ → Limits → Left → FileReader → List ℕ → Stepped
refuse_module source limits t m word = skipped source limits t m (refused_module m.text word t.token.span.line)

abbrev pub stop_module : List ℕ → Limits → Left → FileReader → Stepped
stop_module source limits t m = if is_passed (look_of source t) then refuse_module source limits t m (word_of source t) else Err (item_refusal limits t)

abbrev pub module_refused : List ℕ → Limits → Left → FileReader → Refusal → Stepped
module_refused source limits t m refusals.Here = refuse_module source limits t m (word_of source t)
module_refused source limits t m (refusals.NoDirection name) = refuse_module source limits t m name
module_refused source limits t m e = Err (told_refusal source limits e (t ∷ []))

abbrev pub in_module : List ℕ → Limits → Left → FileReader → Result ModuleReader Halt → Stepped
in_module source limits t m (Ok r) = if modules.is_done r.phase then Ok (end_module m r) else Ok (record m { module_reader = r })
in_module source limits t m (Err halts.NoMemory) = stop_module source limits t m
in_module source limits t m (Err halts.Syntax) = stop_module source limits t m
in_module source limits t m (Err (halts.Refused e)) = module_refused source limits t m e

-- ---- primitives

abbrev pub end_udp : FileReader → UdpReader → FileReader
end_udp m r = record m { phase = phases.Top; text = whole_udp m.text r.text; udp_reader = udps.begun }

abbrev pub ended_udp : FileReader → Stepped
ended_udp m = Ok (end_udp m m.udp_reader)

abbrev pub refuse_udp : List ℕ → Limits → Left → FileReader → List ℕ → Stepped
refuse_udp source limits t m word = skipped source limits t m (refused_udp m.text word t.token.span.line)

abbrev pub stop_udp : List ℕ → Limits → Left → FileReader → Stepped
stop_udp source limits t m = if is_passed (look_of source t) then refuse_udp source limits t m (word_of source t) else Err (item_refusal limits t)

abbrev pub udp_refused : List ℕ → Limits → Left → FileReader → Refusal → Stepped
udp_refused source limits t m refusals.Here = refuse_udp source limits t m (word_of source t)
udp_refused source limits t m (refusals.NoDirection name) = refuse_udp source limits t m name
udp_refused source limits t m e = Err (told_refusal source limits e (t ∷ []))

abbrev pub in_udp : List ℕ → Limits → Left → FileReader → Result UdpReader Halt → Stepped
in_udp source limits t m (Ok r) = if udps.is_done r.phase then Ok (end_udp m r) else Ok (record m { udp_reader = r })
in_udp source limits t m (Err halts.NoMemory) = stop_udp source limits t m
in_udp source limits t m (Err halts.Syntax) = stop_udp source limits t m
in_udp source limits t m (Err (halts.Refused e)) = udp_refused source limits t m e

-- ---- all of them

-- what an item leads to
abbrev pub file_taken : List ℕ → Limits → Left → FilePhase → FileReader → Stepped
file_taken source limits t phases.Module m = in_module source limits t m (modules.taken source limits t m.module_reader)
file_taken source limits t phases.Primitive m = in_udp source limits t m (udps.taken source limits t m.udp_reader)
file_taken source limits t phases.Rest m = rest_step limits t (look_of source t) m
file_taken source limits t p m = outside_step source limits t m (file_move p t.token.span.line (look_of source t))

abbrev pub file_begun : FileReader
file_begun = record { phase = phases.Top; text = no_file; module_reader = modules.begun; udp_reader = udps.begun }

abbrev pub is_done : FilePhase → Bool
is_done phases.Done = true
is_done _ = false
