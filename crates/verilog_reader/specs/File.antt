-- What a file is: lines that are passed over and parts, one after the other, and the end of the text.
use Rattle.std.specs.Prelude.{◌≡◌, ℕ, zero, suc, ◌+◌, List, [], ◌∷◌, length, Result, Ok, Err, if◌then◌else◌}
use Rattle.text_scan.specs.declared.limits.Limits.{Limits}
use Rattle.text_scan.specs.declared.refusal.FileRefusal.{FileRefusal}
use Rattle.grammar.specs.Rule.{Rule, seq, Takes}
use Rattle.grammar.specs.Reading.{Stop, syntax, refusal}
use Rattle.grammar.specs.Answers.{IsAnswer}
use Rattle.verilog_directives.specs.declared.left.Left.{Left}
use Rattle.verilog_directives.specs.Left.{left_of}
use Rattle.verilog_looks.specs.declared.halt.Refusal.{Refusal}
use Rattle.verilog_looks.specs.declared.halt.Refusal.TheVariants as refusals
use Rattle.verilog_modules.specs.declared.module_text.ModuleText.{ModuleText}
use Rattle.verilog_primitives.specs.declared.udp_text.PrimitiveText.{PrimitiveText}
use Rattle.verilog_looks.specs.Looks.{look_of, is_passed}
use Rattle.verilog_looks.specs.Names.{word_of}
use Rattle.verilog_modules.specs.ModuleActions.{no_module}
use Rattle.verilog_modules.specs.ModuleGrammar.{module_body}
use Rattle.verilog_primitives.specs.UdpActions.{no_udp}
use Rattle.verilog_primitives.specs.UdpGrammar.{udp_body}
use Rattle.verilog_reader.specs.declared.file_text.FileText.{FileText}
use Rattle.verilog_reader.specs.declared.file_text.Opened.{Opened}
use Rattle.verilog_reader.specs.declared.file_text.Opened.TheVariants as openings
use Rattle.verilog_reader.specs.FileActions.{no_file, whole_module, refused_module, whole_udp, refused_udp}
use Rattle.verilog_reader.specs.FileGrammar.{outside, part_rest, anything}
use Rattle.verilog_reader.specs.Refusals.{item_refusal, told_refusal, first_refusal, told_stop}

-- what is read of the first items, and the items from there on, or where and why it stops
abbrev pub First : Type 0 → Type 0
First S = Result (S × List Left) (Stop Left Refusal)

-- What a rule says of the first items of a list: they are a whole text of the rule; or the first of the others is the
-- first with which they begin none, whatever may follow; or the action of that item refuses.
abbrev pub IsFirst : {S : Type 0} → Rule Left S Refusal → S → List Left → First S → Type 0
IsFirst a s ts (Ok x) = Takes a s ts x.0 x.1
IsFirst a s ts (Err stop) = IsAnswer (seq a anything) s ts (Err stop)

abbrev pub FileAnswer : Type 0
FileAnswer = Result FileText FileRefusal

-- what comes of a part: more of the file, the rest of a part that is refused, or the refusal of the file
pub data Next : Type 0 where
  Goes : FileText → List Left → Next
  Skips : FileText → List Left → Next
  Stops : FileRefusal → Next

-- a part is refused with this word at the first of these items
abbrev pub refused_with : (List ℕ → ℕ → FileText) → List ℕ → List Left → Next
refused_with add word [] = Skips (add word 0) []
refused_with add word (t ∷ ts) = Skips (add word t.token.span.line) (t ∷ ts)

-- a part is refused at the first of these items, if that may be passed over
abbrev pub refused_at : List ℕ → Limits → (List ℕ → ℕ → FileText) → List Left → Next
refused_at source limits add [] = Stops (first_refusal limits [])
refused_at source limits add (t ∷ ts) = if is_passed (look_of source t) then refused_with add (word_of source t) (t ∷ ts) else Stops (item_refusal limits t)

abbrev pub word_of_first : List ℕ → List Left → List ℕ
word_of_first source [] = []
word_of_first source (t ∷ ts) = word_of source t

-- what comes of a part that stops
abbrev pub stopped_part : List ℕ → Limits → (List ℕ → ℕ → FileText) → Stop Left Refusal → Next
stopped_part source limits add (syntax ts) = refused_at source limits add ts
stopped_part source limits add (refusal refusals.Here ts) = refused_with add (word_of_first source ts) ts
stopped_part source limits add (refusal (refusals.NoDirection name) ts) = refused_with add name ts
stopped_part source limits add (refusal e ts) = Stops (told_refusal source limits e ts)

abbrev pub after_module : List ℕ → Limits → FileText → First ModuleText → Next
after_module source limits f (Ok x) = Goes (whole_module f x.0) x.1
after_module source limits f (Err stop) = stopped_part source limits (refused_module f) stop

abbrev pub after_udp : List ℕ → Limits → FileText → First PrimitiveText → Next
after_udp source limits f (Ok x) = Goes (whole_udp f x.0) x.1
after_udp source limits f (Err stop) = stopped_part source limits (refused_udp f) stop

module _ (source : List ℕ) (limits : Limits) (n : ℕ) where
  -- what the rest of a refused part leads to, where the file from there on is so
  abbrev pub AfterRest : (FileText → List Left → FileAnswer → Type 0) → First FileText → FileAnswer → Type 0
  AfterRest File (Ok x) r = File x.0 x.1 r
  AfterRest File (Err stop) r = r ≡ Err (told_stop source limits stop)

  abbrev pub Then : (FileText → List Left → FileAnswer → Type 0) → Next → FileAnswer → Type 0
  Then File (Goes f ts) r = File f ts r
  Then File (Skips f ts) r = (o : First FileText) × IsFirst (part_rest source limits) f ts o × AfterRest File o r
  Then File (Stops e) r = r ≡ Err e

  -- what has begun outside parts leads to
  abbrev pub Opens : (FileText → List Left → FileAnswer → Type 0) → Opened → FileText → List Left → FileAnswer → Type 0
  Opens File openings.Line f ts r = File f ts r
  Opens File openings.Module f ts r = (o : First ModuleText) × IsFirst (module_body source limits n) no_module ts o × Then File (after_module source limits f o) r
  Opens File openings.Primitive f ts r = (o : First PrimitiveText) × IsFirst (udp_body source limits) no_udp ts o × Then File (after_udp source limits f o) r
  Opens File openings.End f ts r = r ≡ Ok f

  abbrev pub AfterOutside : (FileText → List Left → FileAnswer → Type 0) → First FileText → FileAnswer → Type 0
  AfterOutside File (Ok x) r = Opens File x.0.opened x.0 x.1 r
  AfterOutside File (Err stop) r = r ≡ Err (told_stop source limits stop)

  -- a file of at most so many parts and passed lines, its end among them, after those that were read
  abbrev pub IsFile : ℕ → FileText → List Left → FileAnswer → Type 0
  IsFile zero f ts r = ⊥
  IsFile (suc k) f ts r = (o : First FileText) × IsFirst (outside source limits) f ts o × AfterOutside (IsFile k) o r

-- the answer that the grammar gives a text; the parentheses of a delay are nested less deep than the text has items
abbrev pub IsSource : List ℕ → Limits → FileAnswer → Type 0
IsSource source limits r = (k : ℕ) × IsFile source limits (length (left_of source limits) + 1) k no_file (left_of source limits) r
