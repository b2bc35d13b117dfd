-- In each module of a file the outputs of instances are nets.
use Rattle.std.proofs.Common.{◌≡◌, ℕ, zero, suc, ◌+◌, Bool, true, false, List, [], ◌∷◌, ◌++◌, length, Ok, Err, refl, sym, subst}
use Rattle.std.specs.Prelude.{if◌then◌else◌, nat_le}
use Rattle.text_scan.specs.declared.limits.Limits.{Limits}
use Rattle.text_scan.specs.declared.refusal.FileRefusal.{FileRefusal}
use Rattle.file_rules.specs.Names.{is_name, is_too_long}
use Rattle.name_index.specs.Places.{is_known}
use Rattle.grammar.specs.Rule.{none, Takes}
use Rattle.grammar.specs.Reading.{Stop, syntax, refusal}
use Rattle.verilog_directives.specs.declared.left.Left.{Left}
use Rattle.verilog_directives.specs.Left.{left_of}
use Rattle.verilog_looks.specs.declared.halt.Refusal.{Refusal}
use Rattle.verilog_looks.specs.declared.halt.Refusal.TheVariants as refusals
use Rattle.verilog_looks.specs.declared.look.Look.{Look}
use Rattle.verilog_looks.specs.Looks as looks
use Rattle.verilog_looks.specs.Looks.{look_of, is_passed}
use Rattle.verilog_looks.specs.Names.{content}
use Rattle.verilog_source.specs.declared.module.ModulePart.{ModulePart}
use Rattle.verilog_source.specs.declared.module.ModulePart.TheVariants.{Whole, Refused}
use Rattle.verilog_source.specs.declared.Source.{Source}
use Rattle.verilog_modules.specs.declared.module_text.ModuleText.{ModuleText}
use Rattle.verilog_modules.specs.Driving.{DriveNets}
use Rattle.verilog_modules.specs.ModuleGrammar.{is_beside, is_off, module_body}
use Rattle.verilog_modules.specs.ModuleActions.{no_module}
use Rattle.verilog_modules.proofs.Keeping.{Leads, leads_none, leads_before, leads_one, leads_seq, leads_alt, leads_many}
use Rattle.verilog_modules.proofs.Instances.{modules_drive}
use Rattle.verilog_primitives.specs.declared.PrimitiveText.{PrimitiveText}
use Rattle.verilog_reader.specs.declared.file_text.FileText.{FileText}
use Rattle.verilog_reader.specs.declared.file_text.Opened.{Opened}
use Rattle.verilog_reader.specs.declared.file_text.Opened.TheVariants as openings
use Rattle.verilog_reader.specs.declared.file_phase.FileAction.{FileAction}
use Rattle.verilog_reader.specs.declared.file_phase.FileAction.TheVariants as actions
use Rattle.verilog_reader.specs.Driving.{AllDriveNets}
use Rattle.verilog_reader.specs.File.{First, IsFirst, FileAnswer, Next, Goes, Skips, Stops, refused_with, refused_at, stopped_part, after_module, after_udp, AfterRest, Then, Opens, AfterOutside, IsFile, IsSource}
use Rattle.verilog_reader.specs.FileActions.{FileOutcome, no_file, perform_file, name_part, whole_module, refused_module, whole_udp, refused_udp}
use Rattle.verilog_reader.specs.FileGrammar.{FileRule, act, line_rest, passed_line, module_name, primitive_name, outside, unread, part_rest}
use Rattle.verilog_reader.specs.Promise.{IsAnswered, source_of, told}

abbrev Drive : FileText → List Left → Type 0
Drive f ts = AllDriveNets f.modules

-- ---- what items outside parts leave alone

ok_same : (f x g : FileText) → x.modules ≡ f.modules → ◌≡◌ {A = FileOutcome} (Ok x) (Ok g) → g.modules ≡ f.modules
ok_same f x g h e = let is : x ≡ g = cc in subst (λ z. z.modules ≡ f.modules) is h

unless : (b : Bool) (e : Refusal) (o : FileOutcome) (g : FileText) → (if b then Err e else o) ≡ Ok g → o ≡ Ok g
unless true e o g h = absurd (cc)
unless false e o g h = h

only_if : (b : Bool) (e : Refusal) (o : FileOutcome) (g : FileText) → (if b then o else Err e) ≡ Ok g → o ≡ Ok g
only_if true e o g h = h
only_if false e o g h = absurd (cc)

named_same : (limits : Limits) (t : Left) (name : List ℕ) (opened : Opened) (f g : FileText) → name_part limits t name opened f ≡ Ok g → g.modules ≡ f.modules
unfolding name_part
named_same limits t name opened f g h =
    let passes = only_if (is_name name) (refusals.BadName t.token) _ g (unless (is_too_long limits name) _ _ g h) in
    ok_same f (record f { names = f.names ++ name ∷ []; opened = opened; name = name }) g refl (unless (is_known name f.names) (refusals.DoubleName t.token) _ g passes)

module _ (source : List ℕ) (limits : Limits) where
  file_same : (a : FileAction) (t : Left) (f g : FileText) → perform_file source limits a t f ≡ Ok g → g.modules ≡ f.modules
  unfolding perform_file
  file_same actions.Keep t f g h = ok_same f f g refl h
  file_same actions.BeginLine t f g h = ok_same f (record f { opened = openings.Line }) g refl h
  file_same actions.CountModule t f g h = ok_same f f g refl (unless (nat_le limits.cells (length f.modules)) _ _ g h)
  file_same actions.CountPrimitive t f g h = ok_same f f g refl (unless (nat_le limits.cells (length f.primitives)) _ _ g h)
  file_same actions.NameModule t f g h = named_same limits t (content source t.token) openings.Module f g h
  file_same actions.NamePrimitive t f g h = named_same limits t (content source t.token) openings.Primitive f g h
  file_same actions.End t f g h = ok_same f (record f { opened = openings.End }) g refl h

  one_drives : (p : Left → Bool) (a : FileAction) (next : Left → FileRule) → ((x : Left) → Leads Drive (next x) Drive) → Leads Drive (Rattle.grammar.specs.Rule.one p (λ t f. perform_file source limits a t f) next) Drive
  one_drives p a next after = leads_one Drive Drive Drive p _ next (λ x us f g k h e. subst AllDriveNets (sym (file_same a x f g e)) h) (λ x k. after x)

  act_drives : (p : Look → Bool) (a : FileAction) (follows : FileRule) → Leads Drive follows Drive → Leads Drive (act source limits p a follows) Drive
  act_drives p a follows after = one_drives (λ t. p (look_of source t)) a (λ t. follows) (λ x. after)

  last : (p : Look → Bool) (a : FileAction) → Leads Drive (act source limits p a none) Drive
  last p a = act_drives p a none (leads_none Refusal Drive)

  line_drives : (line : ℕ) → Leads Drive (line_rest source limits line) Drive
  unfolding line_rest
  line_drives line =
      leads_seq Drive Drive Drive _ _ (leads_many Drive _ (one_drives (is_beside source line) actions.Keep _ (λ x. leads_none Refusal Drive)))
      (leads_before Refusal Drive Drive (is_off source line) (λ f x us k h. h))

  passed_drives : Leads Drive (passed_line source limits) Drive
  unfolding passed_line
  passed_drives = one_drives (λ t. looks.is_macro (look_of source t)) actions.BeginLine _ (λ x. line_drives x.token.span.line)

  outside_drives : Leads Drive (outside source limits) Drive
  unfolding outside module_name primitive_name
  outside_drives =
      leads_alt Drive Drive _ _ passed_drives
      (leads_alt Drive Drive _ _ (act_drives looks.is_module actions.CountModule _ (last looks.is_name actions.NameModule))
      (leads_alt Drive Drive _ _ (act_drives looks.is_primitive actions.CountPrimitive _ (last looks.is_name actions.NamePrimitive))
      (last looks.is_end actions.End)))

  rest_drives : Leads Drive (part_rest source limits) Drive
  unfolding part_rest unread
  rest_drives = leads_seq Drive Drive Drive _ _ (leads_many Drive _ (last looks.is_unread actions.Keep)) (last looks.is_part_end actions.Keep)

  -- ---- what parts add

  parts_more : (ps : List ModulePart) (p : ModulePart) → AllDriveNets ps → AllDriveNets (p ∷ []) → AllDriveNets (ps ++ p ∷ [])
  parts_more [] p h g = g
  parts_more (Whole m ∷ ps) p h g = (h.0, parts_more ps p h.1 g)
  parts_more (Refused name word line ∷ ps) p h g = parts_more ps p h g

  abbrev NextDrives : Next → Type 0
  NextDrives (Goes f ts) = AllDriveNets f.modules
  NextDrives (Skips f ts) = AllDriveNets f.modules
  NextDrives (Stops e) = Unit {0}

  abbrev Adds : (List ℕ → ℕ → FileText) → Type 0
  Adds add = (word : List ℕ) (line : ℕ) → AllDriveNets (add word line).modules

  with_drives : (add : List ℕ → ℕ → FileText) (word : List ℕ) (ts : List Left) → Adds add → NextDrives (refused_with add word ts)
  with_drives add word [] h = h word 0
  with_drives add word (t ∷ ts) h = h word t.token.span.line

  either : (b : Bool) (x y : Next) → NextDrives x → NextDrives y → NextDrives (if b then x else y)
  either true x y g h = g
  either false x y g h = h

  at_drives : (add : List ℕ → ℕ → FileText) (ts : List Left) → Adds add → NextDrives (refused_at source limits add ts)
  at_drives add [] h = tt
  at_drives add (t ∷ ts) h = either (is_passed (look_of source t)) _ _ (with_drives add _ (t ∷ ts) h) tt

  stop_drives : (add : List ℕ → ℕ → FileText) (stop : Stop Left Refusal) → Adds add → NextDrives (stopped_part source limits add stop)
  stop_drives add (syntax ts) h = at_drives add ts h
  stop_drives add (refusal refusals.Here ts) h = with_drives add _ ts h
  stop_drives add (refusal (refusals.NoDirection name) ts) h = with_drives add name ts h
  stop_drives add (refusal (refusals.TooMany kind) ts) h = tt
  stop_drives add (refusal (refusals.BadName t) ts) h = tt
  stop_drives add (refusal (refusals.DoubleName t) ts) h = tt

  module_refused : (f : FileText) → AllDriveNets f.modules → Adds (refused_module f)
  unfolding refused_module
  module_refused f h word line = parts_more f.modules _ h tt

  udp_refused : (f : FileText) → AllDriveNets f.modules → Adds (refused_udp f)
  unfolding refused_udp
  udp_refused f h word line = h

  whole_drives : (f : FileText) (m : ModuleText) → AllDriveNets f.modules → DriveNets m.elements → AllDriveNets (whole_module f m).modules
  unfolding whole_module
  whole_drives f m h g = parts_more f.modules _ h (g, tt)

  udp_whole : (f : FileText) (u : PrimitiveText) → AllDriveNets f.modules → AllDriveNets (whole_udp f u).modules
  unfolding whole_udp
  udp_whole f u h = h

  -- ---- the file

  abbrev AnswerDrives : FileAnswer → Type 0
  AnswerDrives (Ok g) = AllDriveNets g.modules
  AnswerDrives (Err e) = Unit {0}

  refused_drives : (r : FileAnswer) (e : FileRefusal) → r ≡ Err e → AnswerDrives r
  refused_drives r e h = subst AnswerDrives (sym h) tt

  module _ (n : ℕ) where
    abbrev File : ℕ → FileText → List Left → FileAnswer → Type 0
    File k = IsFile source limits n k

    abbrev Goal : ℕ → Type 0
    Goal k = (f : FileText) (ts : List Left) (r : FileAnswer) → AllDriveNets f.modules → File k f ts r → AnswerDrives r

    rest_answers : (k : ℕ) → Goal k → (f : FileText) (ts : List Left) (o : First FileText) (r : FileAnswer) → AllDriveNets f.modules → IsFirst (part_rest source limits) f ts o → AfterRest source limits n (File k) o r → AnswerDrives r
    rest_answers k goal f ts (Ok x) r h is after = goal x.0 x.1 r (rest_drives f ts x.0 x.1 h is) after
    rest_answers k goal f ts (Err stop) r h is after = refused_drives r _ after

    next_answers : (k : ℕ) → Goal k → (next : Next) (r : FileAnswer) → NextDrives next → Then source limits n (File k) next r → AnswerDrives r
    next_answers k goal (Goes f ts) r h is = goal f ts r h is
    next_answers k goal (Skips f ts) r h is = rest_answers k goal f ts is.0 r h is.1 is.2
    next_answers k goal (Stops e) r h is = refused_drives r e is

    module_next : (f : FileText) (ts : List Left) (o : First ModuleText) → AllDriveNets f.modules → IsFirst (module_body source limits n) no_module ts o → NextDrives (after_module source limits f o)
    module_next f ts (Ok x) h is = whole_drives f x.0 h (modules_drive source limits n ts x.0 x.1 is)
    module_next f ts (Err stop) h is = stop_drives (refused_module f) stop (module_refused f h)

    udp_next : (f : FileText) (o : First PrimitiveText) → AllDriveNets f.modules → NextDrives (after_udp source limits f o)
    udp_next f (Ok x) h = udp_whole f x.0 h
    udp_next f (Err stop) h = stop_drives (refused_udp f) stop (udp_refused f h)

    opens_answers : (k : ℕ) → Goal k → (opened : Opened) (f : FileText) (ts : List Left) (r : FileAnswer) → AllDriveNets f.modules → Opens source limits n (File k) opened f ts r → AnswerDrives r
    opens_answers k goal openings.Line f ts r h is = goal f ts r h is
    opens_answers k goal openings.Module f ts r h is = next_answers k goal (after_module source limits f is.0) r (module_next f ts is.0 h is.1) is.2
    opens_answers k goal openings.Primitive f ts r h is = next_answers k goal (after_udp source limits f is.0) r (udp_next f is.0 h) is.2
    opens_answers k goal openings.End f ts r h is = subst AnswerDrives (sym is) h

    outside_answers : (k : ℕ) → Goal k → (f : FileText) (ts : List Left) (o : First FileText) (r : FileAnswer) → AllDriveNets f.modules → IsFirst (outside source limits) f ts o → AfterOutside source limits n (File k) o r → AnswerDrives r
    outside_answers k goal f ts (Ok x) r h is after = opens_answers k goal x.0.opened x.0 x.1 r (outside_drives f ts x.0 x.1 h is) after
    outside_answers k goal f ts (Err stop) r h is after = refused_drives r _ after

    files_drive : (k : ℕ) → Goal k
    files_drive zero f ts r h is = absurd is
    files_drive (suc k) f ts r h is = outside_answers k (files_drive k) f ts is.0 r h is.1 is.2

  pub sources_drive : (r : FileAnswer) → IsSource source limits r → AnswerDrives r
  sources_drive r is = files_drive (length (left_of source limits) + 1) is.0 no_file (left_of source limits) r tt is.1

  told_drives : (r : FileAnswer) (s : Source) → told r ≡ Ok s → AnswerDrives r → AllDriveNets s.modules
  told_drives (Ok f) s e h = let is : source_of f ≡ s = cc in subst (λ z. AllDriveNets z.modules) is h
  told_drives (Err e) s f h = absurd (cc)

  pub answers_drive : (s : Source) → IsAnswered source limits (Ok s) → AllDriveNets s.modules
  answers_drive s a = told_drives a.answer s a.agrees (sources_drive a.answer a.is)
