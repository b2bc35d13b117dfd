-- An item leads a reader of a file to what the grammar says.
use Rattle.std.proofs.Common.{◌≡◌, ℕ, suc, ◌≤◌, ◌++◌, Bool, true, false, ◌==◌, List, [], ◌∷◌, length, Result, Ok, Err, refl, sym, ap, subst, ◌∙◌, if◌then◌else◌}
use Rattle.text_scan.specs.declared.limits.Limits.{Limits}
use Rattle.text_scan.specs.declared.limits.LimitKind.TheVariants as limit_kinds
use Rattle.grammar.specs.Reading.{syntax, refusal, acting, read}
use Rattle.name_index.specs.Places.{is_known}
use Rattle.verilog_directives.specs.declared.left.Left.{Left}
use Rattle.verilog_looks.specs.declared.halt.Refusal.{Refusal}
use Rattle.verilog_looks.specs.declared.halt.Refusal.TheVariants as refusals
use Rattle.verilog_looks.specs.declared.halt.Halt.{Halt}
use Rattle.verilog_looks.specs.declared.halt.Halt.TheVariants as halts
use Rattle.verilog_looks.specs.declared.look.Look.{Look}
use Rattle.verilog_looks.specs.declared.look.Look.TheVariants as looks
use Rattle.verilog_modules.specs.declared.module_phase.ModulePhase.{ModulePhase}
use Rattle.verilog_modules.specs.declared.module_phase.ModulePhase.TheVariants as module_phases
use Rattle.verilog_modules.specs.declared.module_reader.ModuleReader.{ModuleReader}
use Rattle.verilog_primitives.specs.declared.udp_phase.UdpPhase.{UdpPhase}
use Rattle.verilog_primitives.specs.declared.udp_phase.UdpPhase.TheVariants as udp_phases
use Rattle.verilog_primitives.specs.declared.udp_reader.UdpReader.{UdpReader}
use Rattle.verilog_looks.specs.Looks.{look_of, is_passed}
use Rattle.verilog_looks.specs.Names.{content, word_of}
use Rattle.file_rules.specs.Names.{is_name, is_too_long}
use Rattle.verilog_modules.specs.ModuleActions.{no_module}
use Rattle.verilog_modules.specs.ModuleGrammar.{module_body, is_beside, is_off}
use Rattle.verilog_modules.specs.ModuleMoves as modules
use Rattle.verilog_modules.specs.ModuleToCome as modules_to_come
use Rattle.verilog_primitives.specs.UdpActions.{no_udp}
use Rattle.verilog_primitives.specs.UdpGrammar.{udp_body}
use Rattle.verilog_primitives.specs.UdpMoves as udps
use Rattle.verilog_primitives.specs.UdpToCome as udps_to_come
use Rattle.verilog_modules.proofs.ModuleSimple.{module_simple}
use Rattle.verilog_primitives.proofs.UdpSimple.{udp_simple}
use Rattle.verilog_reader.specs.declared.file_text.FileText.{FileText}
use Rattle.verilog_reader.specs.declared.file_text.Opened.{Opened}
use Rattle.verilog_reader.specs.declared.file_text.Opened.TheVariants as openings
use Rattle.verilog_reader.specs.declared.file_phase.FilePhase.{FilePhase}
use Rattle.verilog_reader.specs.declared.file_phase.FilePhase.TheVariants as phases
use Rattle.verilog_reader.specs.declared.file_phase.FileAction.TheVariants as actions
use Rattle.verilog_reader.specs.declared.file_phase.FileMove.{FileMove}
use Rattle.verilog_reader.specs.declared.file_phase.FileMove.TheVariants as moves
use Rattle.verilog_reader.specs.declared.file_reader.FileReader.{FileReader}
use Rattle.verilog_reader.specs.FileActions.{perform_file, name_part, whole_module, refused_module, whole_udp, refused_udp}
use Rattle.verilog_reader.specs.FileGrammar.{line_rest, module_name, primitive_name, outside, part_rest}
use Rattle.verilog_reader.specs.File.{First, FileAnswer, Next, Skips, stopped_part, after_module, after_udp, AfterRest, Then, Opens, AfterOutside}
use Rattle.verilog_reader.specs.Refusals.{item_refusal, told_refusal}
use Rattle.verilog_reader.specs.FileSteps.{Stepped, at_top, on_line, at_line, at_module_word, at_primitive_word, moved, outside_step, rest_step, skipped, stop_module, module_refused, in_module, stop_udp, udp_refused, in_udp, file_taken, is_done}
use Rattle.verilog_reader.specs.Bounds.{Sits, IsLive}
use Rattle.verilog_reader.proofs.FirstAnswers.{first_answers}
use Rattle.verilog_reader.proofs.OutsideFollows.{reads_on, outcome, top_ok, module_word_ok, primitive_word_ok, line_stays, line_stops, line_ended, rest_stays, rest_closes, rest_stops, rest_simple}
use Rattle.verilog_reader.proofs.Files.{Some, one_more}
use Rattle.verilog_reader.proofs.PartsFollow.{is_open, module_on, module_takes, udp_on, udp_takes}

module _ (source : List ℕ) (limits : Limits) (n : ℕ) where
  -- what the items from here on make of the file
  abbrev pub FromHere : FilePhase → FileReader → List Left → FileAnswer → Type 0
  FromHere phases.Top m ts r = AfterOutside source limits n (Some source limits n) (read (outside source limits) m.text ts) r
  FromHere (phases.Line line) m ts r = AfterOutside source limits n (Some source limits n) (read (line_rest source limits line) m.text ts) r
  FromHere phases.ModuleWord m ts r = AfterOutside source limits n (Some source limits n) (read (module_name source limits) m.text ts) r
  FromHere phases.PrimitiveWord m ts r = AfterOutside source limits n (Some source limits n) (read (primitive_name source limits) m.text ts) r
  FromHere phases.Module m ts r = Then source limits n (Some source limits n) (after_module source limits m.text (modules_to_come.reads source limits n m.module_reader ts)) r
  FromHere phases.Primitive m ts r = Then source limits n (Some source limits n) (after_udp source limits m.text (udps_to_come.reads source limits m.udp_reader ts)) r
  FromHere phases.Rest m ts r = AfterRest source limits n (Some source limits n) (read (part_rest source limits) m.text ts) r
  FromHere phases.Done m ts r = r ≡ Ok m.text

  -- the step leads to a state from which the answers are Q's, or to the refusal that is Q's
  abbrev pub Turned : Stepped → (FileAnswer → Type 0) → List Left → Type 0
  Turned (Ok m) Q ts = ((r : FileAnswer) → FromHere m.phase m ts r → Q r) × IsLive m.phase m
  Turned (Err e) Q ts = Q (Err e)

  pub turned_map : (o : Stepped) (P Q : FileAnswer → Type 0) (ts : List Left) → ((r : FileAnswer) → P r → Q r) → Turned o P ts → Turned o Q ts
  turned_map (Ok m) P Q ts h t = ((λ r g. h r (t.0 r g)), t.1)
  turned_map (Err e) P Q ts h t = h (Err e) t

  -- ---- outside parts

  told_same : (e : Refusal) (t : Left) (ts : List Left) → told_refusal source limits e (t ∷ []) ≡ told_refusal source limits e (t ∷ ts)
  told_same (refusals.TooMany kind) t ts = refl
  told_same (refusals.BadName token) t ts = refl
  told_same (refusals.DoubleName token) t ts = refl
  told_same refusals.Here t ts = refl
  told_same (refusals.NoDirection name) t ts = refl

  -- what has begun, where an item leads to this phase
  abbrev OpenedAs : FilePhase → FileText → Type 0
  OpenedAs phases.Top f = Unit {0}
  OpenedAs (phases.Line line) f = f.opened ≡ openings.Line
  OpenedAs phases.ModuleWord f = Unit {0}
  OpenedAs phases.PrimitiveWord f = Unit {0}
  OpenedAs phases.Module f = f.opened ≡ openings.Module
  OpenedAs phases.Primitive f = f.opened ≡ openings.Primitive
  OpenedAs phases.Rest f = ⊥
  OpenedAs phases.Done f = f.opened ≡ openings.End

  abbrev Fits : FileMove → Left → FileText → Type 0
  Fits moves.Stop t f = Unit {0}
  Fits (moves.Go a p) t f = (g : FileText) → perform_file source limits a t f ≡ Ok g → OpenedAs p g

  abbrev After : First FileText → FileAnswer → Type 0
  After o r = AfterOutside source limits n (Some source limits n) o r

  abbrev led_to : FilePhase → FileText → FileReader
  led_to p g = record { phase = p; text = g; module_reader = modules.begun; udp_reader = udps.begun }

  -- an action that leads to this phase
  opened_turn : (p : FilePhase) (g : FileText) (ts : List Left) → OpenedAs p g → Turned (Ok (led_to p g)) (After (reads_on source limits p g ts)) ts
  opened_turn phases.Top g ts h = ((λ r f. f), tt)
  opened_turn (phases.Line line) g ts h = ((λ r f. f), h)
  opened_turn phases.ModuleWord g ts h = ((λ r f. f), tt)
  opened_turn phases.PrimitiveWord g ts h = ((λ r f. f), tt)
  opened_turn phases.Module g ts h = (
    (λ r f. let P : Opened → Type 0 = λ o. Opens source limits n (Some source limits n) o g ts r in
        subst P (sym h) (read (module_body source limits n) no_module ts, first_answers (module_body source limits n) (module_simple source limits n) no_module ts, f)),
    refl,
  )
  opened_turn phases.Primitive g ts h = (
    (λ r f. let P : Opened → Type 0 = λ o. Opens source limits n (Some source limits n) o g ts r in
        subst P (sym h) (read (udp_body source limits) no_udp ts, first_answers (udp_body source limits) (udp_simple source limits) no_udp ts, f)),
    refl,
  )
  opened_turn phases.Rest g ts h = absurd h
  opened_turn phases.Done g ts h = ((λ r f. let P : Opened → Type 0 = λ o. Opens source limits n (Some source limits n) o g ts r in subst P (sym h) f), tt)

  outside_turn : (move : FileMove) (m : FileReader) (t : Left) (ts : List Left) → Fits move t m.text → Turned (outside_step source limits t m move) (After (outcome source limits move t m.text ts)) ts
  outside_turn moves.Stop m t ts h = refl
  outside_turn (moves.Go a p) m t ts h = go (perform_file source limits a t m.text) refl
    where
      go : (o : Result FileText Refusal) → perform_file source limits a t m.text ≡ o
          → Turned (moved source limits t m p o) (After (acting o (λ g. reads_on source limits p g ts) (λ e. Err (refusal e (t ∷ ts))))) ts
      go (Ok g) e = opened_turn p g ts (h g e)
      go (Err e) g = ap Err (told_same e t ts)

  -- what has begun
  begins_so : (f g h : FileText) → (let o : Result FileText Refusal = Ok f in o) ≡ Ok g → h ≡ f → g.opened ≡ h.opened
  begins_so f g h e k = let same : f ≡ g = cc in ap (λ z. z.opened) (sym same ∙ sym k)

  name_opens : (t : Left) (name : List ℕ) (opened : Opened) (f g : FileText) → name_part limits t name opened f ≡ Ok g → g.opened ≡ opened
  unfolding name_part
  name_opens t name opened f g e = go (is_too_long limits name) (is_name name) (is_known name f.names) e
    where
      named : FileText
      named = record f { names = f.names ++ name ∷ []; opened = opened; name = name }

      go : (x y z : Bool) → (if x then Err (refusals.TooMany limit_kinds.Name) else (if y then (if z then Err (refusals.DoubleName t.token) else Ok named) else Err (refusals.BadName t.token))) ≡ Ok g → g.opened ≡ opened
      go true y z h = absurd cc
      go false false z h = absurd cc
      go false true true h = absurd cc
      go false true false h = begins_so named g named h refl

  fits_top : (line : ℕ) (l : Look) (t : Left) (f : FileText) → Fits (at_top line l) t f
  unfolding perform_file
  fits_top line looks.Macro t f = λ g e. begins_so (record f { opened = openings.Line }) g (record f { opened = openings.Line }) e refl
  fits_top line looks.Module t f = λ g e. tt
  fits_top line looks.Primitive t f = λ g e. tt
  fits_top line looks.End t f = λ g e. begins_so (record f { opened = openings.End }) g (record f { opened = openings.End }) e refl
  fits_top line _ t f = tt

  fits_module_word : (l : Look) (t : Left) (f : FileText) → Fits (at_module_word l) t f
  unfolding perform_file
  fits_module_word looks.Name t f = λ g e. name_opens t (content source t.token) openings.Module f g e
  fits_module_word _ t f = tt

  fits_primitive_word : (l : Look) (t : Left) (f : FileText) → Fits (at_primitive_word l) t f
  unfolding perform_file
  fits_primitive_word looks.Name t f = λ g e. name_opens t (content source t.token) openings.Primitive f g e
  fits_primitive_word _ t f = tt

  along : (o : Stepped) (a b : First FileText) (ts : List Left) → a ≡ b → Turned o (After b) ts → Turned o (After a) ts
  along o a b ts e t = turned_map o (After b) (After a) ts (λ r f. subst (λ z. After z r) (sym e) f) t

  top_turn : (l : Look) (m : FileReader) (t : Left) (ts : List Left) → look_of source t ≡ l
      → Turned (outside_step source limits t m (at_top t.token.span.line l)) (After (read (outside source limits) m.text (t ∷ ts))) ts
  top_turn l m t ts h =
      along (outside_step source limits t m (at_top t.token.span.line l)) (read (outside source limits) m.text (t ∷ ts)) (outcome source limits (at_top t.token.span.line l) t m.text ts) ts (top_ok source limits l m.text t ts h)
      (outside_turn (at_top t.token.span.line l) m t ts (fits_top t.token.span.line l t m.text))

  -- the line has ended before an item
  ended_turn : (line : ℕ) (l : Look) (m : FileReader) (t : Left) (ts : List Left) → look_of source t ≡ l → m.text.opened ≡ openings.Line → is_beside source line t ≡ false → is_off source line t ≡ true
      → Turned (outside_step source limits t m (at_top t.token.span.line l)) (After (read (line_rest source limits line) m.text (t ∷ ts))) ts
  ended_turn line l m t ts h o b f =
      along (outside_step source limits t m (at_top t.token.span.line l)) (read (line_rest source limits line) m.text (t ∷ ts)) (Ok (m.text, t ∷ ts)) ts (line_ended source limits line m.text t ts b f)
      (turned_map (outside_step source limits t m (at_top t.token.span.line l)) (After (read (outside source limits) m.text (t ∷ ts))) (After (Ok (m.text, t ∷ ts))) ts
      (λ r g. let P : Opened → Type 0 = λ z. Opens source limits n (Some source limits n) z m.text (t ∷ ts) r in subst P (sym o) (one_more source limits n m.text (t ∷ ts) r g))
      (top_turn l m t ts h))

  -- an item on the line
  beside_turn : (line : ℕ) (m : FileReader) (t : Left) (ts : List Left) → (t.token.span.line == line) ≡ true → m.text.opened ≡ openings.Line → is_passed (look_of source t) ≡ true
      → Turned (outside_step source limits t m (moves.Go actions.Keep (phases.Line line))) (After (read (line_rest source limits line) m.text (t ∷ ts))) ts
  unfolding perform_file
  beside_turn line m t ts e o p =
      along (Ok (led_to (phases.Line line) m.text)) (read (line_rest source limits line) m.text (t ∷ ts)) (read (line_rest source limits line) m.text ts) ts (line_stays source limits line (look_of source t) m.text t ts e refl p)
      ((λ r f. f), o)

  on_line_turn : (line : ℕ) (l : Look) (m : FileReader) (t : Left) (ts : List Left) → (t.token.span.line == line) ≡ true → look_of source t ≡ l → m.text.opened ≡ openings.Line
      → Turned (outside_step source limits t m (on_line line t.token.span.line l)) (After (read (line_rest source limits line) m.text (t ∷ ts))) ts
  on_line_turn line looks.Barred m t ts e h o = along (outside_step source limits t m moves.Stop) (read (line_rest source limits line) m.text (t ∷ ts)) (Err (syntax (t ∷ ts))) ts (line_stops source limits line m.text t ts e h) refl
  on_line_turn line looks.End m t ts e h o = ended_turn line looks.End m t ts h o (rw (e, h) refl) (rw (e, h) refl)
  on_line_turn line l m t ts e h o = beside_turn line m t ts e o (rw h refl)

  line_turn : (line : ℕ) (m : FileReader) (t : Left) (ts : List Left) → m.text.opened ≡ openings.Line
      → Turned (outside_step source limits t m (at_line (t.token.span.line == line) line t.token.span.line (look_of source t))) (After (read (line_rest source limits line) m.text (t ∷ ts))) ts
  line_turn line m t ts o = go (t.token.span.line == line) refl
    where
      go : (b : Bool) → (t.token.span.line == line) ≡ b → Turned (outside_step source limits t m (at_line b line t.token.span.line (look_of source t))) (After (read (line_rest source limits line) m.text (t ∷ ts))) ts
      go true e = on_line_turn line (look_of source t) m t ts e refl o
      go false e = ended_turn line (look_of source t) m t ts refl o (rw e refl) (rw e refl)

  module_word_turn : (m : FileReader) (t : Left) (ts : List Left)
      → Turned (outside_step source limits t m (at_module_word (look_of source t))) (After (read (module_name source limits) m.text (t ∷ ts))) ts
  module_word_turn m t ts =
      along (outside_step source limits t m (at_module_word (look_of source t))) (read (module_name source limits) m.text (t ∷ ts)) (outcome source limits (at_module_word (look_of source t)) t m.text ts) ts (module_word_ok source limits (look_of source t) m.text t ts refl)
      (outside_turn (at_module_word (look_of source t)) m t ts (fits_module_word (look_of source t) t m.text))

  primitive_word_turn : (m : FileReader) (t : Left) (ts : List Left)
      → Turned (outside_step source limits t m (at_primitive_word (look_of source t))) (After (read (primitive_name source limits) m.text (t ∷ ts))) ts
  primitive_word_turn m t ts =
      along (outside_step source limits t m (at_primitive_word (look_of source t))) (read (primitive_name source limits) m.text (t ∷ ts)) (outcome source limits (at_primitive_word (look_of source t)) t m.text ts) ts (primitive_word_ok source limits (look_of source t) m.text t ts refl)
      (outside_turn (at_primitive_word (look_of source t)) m t ts (fits_primitive_word (look_of source t) t m.text))

  -- ---- the rest of a part

  abbrev InRest : FileText → List Left → FileAnswer → Type 0
  InRest f ts r = AfterRest source limits n (Some source limits n) (read (part_rest source limits) f ts) r

  in_rest : (a b : First FileText) (r : FileAnswer) → a ≡ b → AfterRest source limits n (Some source limits n) b r → AfterRest source limits n (Some source limits n) a r
  in_rest a b r e f = subst (λ z. AfterRest source limits n (Some source limits n) z r) (sym e) f

  rest_turn : (l : Look) (m : FileReader) (t : Left) (ts : List Left) → look_of source t ≡ l → Turned (rest_step limits t l m) (InRest m.text (t ∷ ts)) ts
  rest_turn looks.EndModule m t ts h = ((λ r f. in_rest (read (part_rest source limits) m.text (t ∷ ts)) (Ok (m.text, ts)) r (rest_closes source limits looks.EndModule m.text t ts h refl refl) (one_more source limits n m.text ts r f)), tt)
  rest_turn looks.EndPrimitive m t ts h = ((λ r f. in_rest (read (part_rest source limits) m.text (t ∷ ts)) (Ok (m.text, ts)) r (rest_closes source limits looks.EndPrimitive m.text t ts h refl refl) (one_more source limits n m.text ts r f)), tt)
  rest_turn looks.Barred m t ts h = in_rest (read (part_rest source limits) m.text (t ∷ ts)) (Err (syntax (t ∷ ts))) (Err (item_refusal limits t)) (rest_stops source limits looks.Barred m.text t ts h refl refl) refl
  rest_turn looks.End m t ts h = in_rest (read (part_rest source limits) m.text (t ∷ ts)) (Err (syntax (t ∷ ts))) (Err (item_refusal limits t)) (rest_stops source limits looks.End m.text t ts h refl refl) refl
  rest_turn l m t ts h = ((λ r f. in_rest (read (part_rest source limits) m.text (t ∷ ts)) (read (part_rest source limits) m.text ts) r (rest_stays source limits l m.text t ts h refl) f), tt)

  abbrev Next_is : Next → FileAnswer → Type 0
  Next_is x r = Then source limits n (Some source limits n) x r

  skip_turn : (m : FileReader) (g : FileText) (t : Left) (ts : List Left) → Turned (skipped source limits t m g) (Next_is (Skips g (t ∷ ts))) ts
  skip_turn m g t ts =
      turned_map (skipped source limits t m g) (InRest g (t ∷ ts)) (Next_is (Skips g (t ∷ ts))) ts
      (λ r f. (read (part_rest source limits) g (t ∷ ts), first_answers (part_rest source limits) (rest_simple source limits) g (t ∷ ts), f))
      (rest_turn (look_of source t) (led_to phases.Rest g) t ts refl)

  -- ---- modules

  module_done : (p : ModulePhase) → modules.is_done p ≡ true → p ≡ module_phases.Done
  module_done module_phases.Done h = refl
  module_done _ h = absurd cc

  stop_module_turn : (m : FileReader) (t : Left) (ts : List Left) → Turned (stop_module source limits t m) (Next_is (stopped_part source limits (refused_module m.text) (syntax (t ∷ ts)))) ts
  stop_module_turn m t ts = go (is_passed (look_of source t)) refl
    where
      go : (b : Bool) → is_passed (look_of source t) ≡ b → Turned (stop_module source limits t m) (Next_is (stopped_part source limits (refused_module m.text) (syntax (t ∷ ts)))) ts
      go true e = rw e (skip_turn m (refused_module m.text (word_of source t) t.token.span.line) t ts)
      go false e = rw e refl

  module_refused_turn : (e : Refusal) (m : FileReader) (t : Left) (ts : List Left) → Turned (module_refused source limits t m e) (Next_is (stopped_part source limits (refused_module m.text) (refusal e (t ∷ ts)))) ts
  module_refused_turn (refusals.TooMany kind) m t ts = refl
  module_refused_turn (refusals.BadName token) m t ts = refl
  module_refused_turn (refusals.DoubleName token) m t ts = refl
  module_refused_turn refusals.Here m t ts = skip_turn m (refused_module m.text (word_of source t) t.token.span.line) t ts
  module_refused_turn (refusals.NoDirection name) m t ts = skip_turn m (refused_module m.text name t.token.span.line) t ts

  in_module_turn : (o : Result ModuleReader Halt) (m : FileReader) (t : Left) (ts : List Left) → m.phase ≡ phases.Module
      → Turned (in_module source limits t m o) (Next_is (after_module source limits m.text (module_on source limits n o t ts))) ts
  in_module_turn (Err halts.NoMemory) m t ts h = stop_module_turn m t ts
  in_module_turn (Err halts.Syntax) m t ts h = stop_module_turn m t ts
  in_module_turn (Err (halts.Refused e)) m t ts h = module_refused_turn e m t ts
  in_module_turn (Ok q) m t ts h = go (modules.is_done q.phase) refl
    where
      go : (b : Bool) → modules.is_done q.phase ≡ b → Turned (in_module source limits t m (Ok q)) (Next_is (after_module source limits m.text (modules_to_come.reads source limits n q ts))) ts
      go true e =
          let whole : modules_to_come.reads source limits n q ts ≡ Ok (q.text, ts) = let done = module_done q.phase e in rw done refl in
          rw (e, whole) ((λ r f. one_more source limits n (whole_module m.text q.text) ts r f), tt)
      go false e =
          let P : FilePhase → Type 0 = λ p. ((r : FileAnswer) → FromHere p (record m { module_reader = q }) ts r → Next_is (after_module source limits m.text (modules_to_come.reads source limits n q ts)) r) × IsLive p (record m { module_reader = q }) in
          rw e (subst P (sym h) ((λ r f. f), e))

  module_turn : (m : FileReader) (t : Left) (ts : List Left) → m.phase ≡ phases.Module → IsLive phases.Module m → Sits n (suc (length ts)) m.module_reader.phase → suc (length ts) ≤ n
      → Turned (in_module source limits t m (modules.taken source limits t m.module_reader)) (FromHere phases.Module m (t ∷ ts)) ts
  module_turn m t ts h live sits few =
      let same = module_takes source limits n m.module_reader t ts (is_open n (length ts) m.module_reader.phase sits few live) in
      turned_map (in_module source limits t m (modules.taken source limits t m.module_reader)) (Next_is (after_module source limits m.text (module_on source limits n (modules.taken source limits t m.module_reader) t ts))) (FromHere phases.Module m (t ∷ ts)) ts
      (λ r f. let P : modules_to_come.Reading → Type 0 = λ o. Next_is (after_module source limits m.text o) r in subst P (sym same) f)
      (in_module_turn (modules.taken source limits t m.module_reader) m t ts h)

  -- ---- primitives

  udp_done : (p : UdpPhase) → udps.is_done p ≡ true → p ≡ udp_phases.Done
  udp_done udp_phases.Done h = refl
  udp_done _ h = absurd cc

  stop_udp_turn : (m : FileReader) (t : Left) (ts : List Left) → Turned (stop_udp source limits t m) (Next_is (stopped_part source limits (refused_udp m.text) (syntax (t ∷ ts)))) ts
  stop_udp_turn m t ts = go (is_passed (look_of source t)) refl
    where
      go : (b : Bool) → is_passed (look_of source t) ≡ b → Turned (stop_udp source limits t m) (Next_is (stopped_part source limits (refused_udp m.text) (syntax (t ∷ ts)))) ts
      go true e = rw e (skip_turn m (refused_udp m.text (word_of source t) t.token.span.line) t ts)
      go false e = rw e refl

  udp_refused_turn : (e : Refusal) (m : FileReader) (t : Left) (ts : List Left) → Turned (udp_refused source limits t m e) (Next_is (stopped_part source limits (refused_udp m.text) (refusal e (t ∷ ts)))) ts
  udp_refused_turn (refusals.TooMany kind) m t ts = refl
  udp_refused_turn (refusals.BadName token) m t ts = refl
  udp_refused_turn (refusals.DoubleName token) m t ts = refl
  udp_refused_turn refusals.Here m t ts = skip_turn m (refused_udp m.text (word_of source t) t.token.span.line) t ts
  udp_refused_turn (refusals.NoDirection name) m t ts = skip_turn m (refused_udp m.text name t.token.span.line) t ts

  in_udp_turn : (o : Result UdpReader Halt) (m : FileReader) (t : Left) (ts : List Left) → m.phase ≡ phases.Primitive
      → Turned (in_udp source limits t m o) (Next_is (after_udp source limits m.text (udp_on source limits o t ts))) ts
  in_udp_turn (Err halts.NoMemory) m t ts h = stop_udp_turn m t ts
  in_udp_turn (Err halts.Syntax) m t ts h = stop_udp_turn m t ts
  in_udp_turn (Err (halts.Refused e)) m t ts h = udp_refused_turn e m t ts
  in_udp_turn (Ok q) m t ts h = go (udps.is_done q.phase) refl
    where
      go : (b : Bool) → udps.is_done q.phase ≡ b → Turned (in_udp source limits t m (Ok q)) (Next_is (after_udp source limits m.text (udps_to_come.reads source limits q ts))) ts
      go true e =
          let whole : udps_to_come.reads source limits q ts ≡ Ok (q.text, ts) = let done = udp_done q.phase e in rw done refl in
          rw (e, whole) ((λ r f. one_more source limits n (whole_udp m.text q.text) ts r f), tt)
      go false e =
          let P : FilePhase → Type 0 = λ p. ((r : FileAnswer) → FromHere p (record m { udp_reader = q }) ts r → Next_is (after_udp source limits m.text (udps_to_come.reads source limits q ts)) r) × IsLive p (record m { udp_reader = q }) in
          rw e (subst P (sym h) ((λ r f. f), e))

  udp_turn : (m : FileReader) (t : Left) (ts : List Left) → m.phase ≡ phases.Primitive → IsLive phases.Primitive m
      → Turned (in_udp source limits t m (udps.taken source limits t m.udp_reader)) (FromHere phases.Primitive m (t ∷ ts)) ts
  udp_turn m t ts h live =
      let same = udp_takes source limits m.udp_reader t ts live in
      turned_map (in_udp source limits t m (udps.taken source limits t m.udp_reader)) (Next_is (after_udp source limits m.text (udp_on source limits (udps.taken source limits t m.udp_reader) t ts))) (FromHere phases.Primitive m (t ∷ ts)) ts
      (λ r f. let P : udps_to_come.Reading → Type 0 = λ o. Next_is (after_udp source limits m.text o) r in subst P (sym same) f)
      (in_udp_turn (udps.taken source limits t m.udp_reader) m t ts h)

  -- ---- all of them

  pub turn : (p : FilePhase) (m : FileReader) (t : Left) (ts : List Left) → m.phase ≡ p → is_done p ≡ false → IsLive p m → Sits n (suc (length ts)) m.module_reader.phase → suc (length ts) ≤ n
      → Turned (file_taken source limits t p m) (FromHere p m (t ∷ ts)) ts
  turn phases.Top m t ts h d live sits few = top_turn (look_of source t) m t ts refl
  turn (phases.Line line) m t ts h d live sits few = line_turn line m t ts live
  turn phases.ModuleWord m t ts h d live sits few = module_word_turn m t ts
  turn phases.PrimitiveWord m t ts h d live sits few = primitive_word_turn m t ts
  turn phases.Module m t ts h d live sits few = module_turn m t ts h live sits few
  turn phases.Primitive m t ts h d live sits few = udp_turn m t ts h live
  turn phases.Rest m t ts h d live sits few = rest_turn (look_of source t) m t ts refl
  turn phases.Done m t ts h d live sits few = absurd cc
