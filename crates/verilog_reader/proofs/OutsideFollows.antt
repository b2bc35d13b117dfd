-- Each item outside parts, and of the rest of a refused part, leads to what the grammar says.
use Rattle.std.proofs.Common.{◌≡◌, ℕ, Bool, true, false, ◌||◌, ◌&&◌, ◌==◌, List, ◌∷◌, Ok, Err, refl, ap, ◌∙◌, if◌then◌else◌}
use Rattle.text_scan.specs.declared.limits.Limits.{Limits}
use Rattle.grammar.specs.Rule.{none, one, before}
use Rattle.grammar.specs.Reading.{syntax, refusal, acting, ◌>>=◌, read, IsSimple}
use Rattle.verilog_directives.specs.declared.left.Left.{Left}
use Rattle.verilog_looks.specs.declared.look.Look.{Look}
use Rattle.verilog_looks.specs.declared.look.Look.TheVariants as looks
use Rattle.verilog_looks.specs.Looks.{look_of, is_module, is_primitive, is_end, is_macro, is_passed, is_unread, is_part_end}
use Rattle.verilog_modules.specs.ModuleGrammar.{is_beside, is_off}
use Rattle.verilog_looks.proofs.Repeats.{turns, ends}
use Rattle.verilog_reader.specs.declared.file_text.FileText.{FileText}
use Rattle.verilog_reader.specs.declared.file_phase.FilePhase.{FilePhase}
use Rattle.verilog_reader.specs.declared.file_phase.FilePhase.TheVariants as phases
use Rattle.verilog_reader.specs.declared.file_phase.FileAction.TheVariants as actions
use Rattle.verilog_reader.specs.declared.file_phase.FileMove.{FileMove}
use Rattle.verilog_reader.specs.declared.file_phase.FileMove.TheVariants as moves
use Rattle.verilog_reader.specs.FileActions.{perform_file}
use Rattle.verilog_reader.specs.FileGrammar.{FileRule, act, line_rest, passed_line, module_name, primitive_name, outside, unread, part_rest}
use Rattle.verilog_reader.specs.File.{First}
use Rattle.verilog_reader.specs.FileSteps.{at_top, at_module_word, at_primitive_word}

module _ (source : List ℕ) (limits : Limits) where
  abbrev Reading : Type 0
  Reading = First FileText

  abbrev on : FileRule → FileText × List Left → Reading
  on c x = read c x.0 x.1

  -- no item that looks so is in next
  abbrev Not : Look → (Left → Bool) → Type 0
  Not l next = (t : Left) → look_of source t ≡ l → next t ≡ false

  by : (p : Look → Bool) (next : Left → Bool) → ((l : Look) → p l ≡ true → Not l next) → (t : Left) → p (look_of source t) ≡ true → next t ≡ false
  by p next h t e = h (look_of source t) e t refl

  -- ---- one item of look-ahead is enough

  on_not_off : (x z : Bool) (l : Look) → (x && is_passed l) ≡ true → ((if x then is_end l else true) || (false && z)) ≡ false
  on_not_off true z looks.Barred e = absurd cc
  on_not_off true z looks.End e = absurd cc
  on_not_off true z l e = refl
  on_not_off false z l e = absurd cc

  line_simple : (line : ℕ) (next : Left → Bool) → IsSimple (line_rest source limits line) next
  unfolding line_rest IsSimple
  line_simple line next = ((refl, refl, (λ t e. on_not_off (t.token.span.line == line) (next t) (look_of source t) e), (λ t e. tt)), tt)

  pub outside_simple : (next : Left → Bool) → IsSimple (outside source limits) next
  unfolding outside passed_line module_name primitive_name IsSimple
  outside_simple next = (refl, by is_macro _ first, (λ m e. line_simple m.token.span.line next), (refl, by is_module _ second, (λ t e u g. tt), (refl, by is_primitive _ third, (λ t e u g. tt), (λ t e. tt))))
    where
      first : (l : Look) → is_macro l ≡ true → Not l (λ t. (is_module (look_of source t) || (is_primitive (look_of source t) || is_end (look_of source t))) || ((false || (false || false)) && next t))
      first looks.Macro e = λ t g. rw g refl
      first _ e = absurd cc

      second : (l : Look) → is_module l ≡ true → Not l (λ t. (is_primitive (look_of source t) || is_end (look_of source t)) || ((false || false) && next t))
      second looks.Module e = λ t g. rw g refl
      second _ e = absurd cc

      third : (l : Look) → is_primitive l ≡ true → Not l (λ t. is_end (look_of source t) || (false && next t))
      third looks.Primitive e = λ t g. rw g refl
      third _ e = absurd cc

  unread_one : (next : Left → Bool) → IsSimple (act source limits is_unread actions.Keep none) next
  unfolding IsSimple
  unread_one next = λ t e. tt

  pub rest_simple : (next : Left → Bool) → IsSimple (part_rest source limits) next
  unfolding part_rest unread IsSimple
  rest_simple next = ((refl, refl, by is_unread _ first, (λ t e. tt)), (λ t e. tt))
    where
      first : (l : Look) → is_unread l ≡ true → Not l (λ t. is_part_end (look_of source t) || (false && next t))
      first looks.EndModule e = absurd cc
      first looks.EndPrimitive e = absurd cc
      first looks.Barred e = absurd cc
      first looks.End e = absurd cc
      first _ e = λ t g. rw g refl

  -- ---- outside parts

  -- what is read where an item led to this phase
  abbrev pub reads_on : FilePhase → FileText → List Left → Reading
  reads_on phases.Top f ts = read (outside source limits) f ts
  reads_on (phases.Line line) f ts = read (line_rest source limits line) f ts
  reads_on phases.ModuleWord f ts = read (module_name source limits) f ts
  reads_on phases.PrimitiveWord f ts = read (primitive_name source limits) f ts
  reads_on _ f ts = Ok (f, ts)

  -- what reading gives where an item does this
  abbrev pub outcome : FileMove → Left → FileText → List Left → Reading
  outcome moves.Stop t f ts = Err (syntax (t ∷ ts))
  outcome (moves.Go a p) t f ts = acting (perform_file source limits a t f) (λ g. reads_on p g ts) (λ e. Err (refusal e (t ∷ ts)))

  pub top_ok : (l : Look) (f : FileText) (t : Left) (ts : List Left) → look_of source t ≡ l → read (outside source limits) f (t ∷ ts) ≡ outcome (at_top t.token.span.line l) t f ts
  unfolding outside passed_line
  top_ok looks.Macro f t ts h = rw h refl
  top_ok looks.Module f t ts h = rw h refl
  top_ok looks.Primitive f t ts h = rw h refl
  top_ok looks.End f t ts h = rw h refl
  top_ok _ f t ts h = rw h refl

  pub module_word_ok : (l : Look) (f : FileText) (t : Left) (ts : List Left) → look_of source t ≡ l → read (module_name source limits) f (t ∷ ts) ≡ outcome (at_module_word l) t f ts
  unfolding module_name
  module_word_ok looks.Name f t ts h = rw h refl
  module_word_ok _ f t ts h = rw h refl

  pub primitive_word_ok : (l : Look) (f : FileText) (t : Left) (ts : List Left) → look_of source t ≡ l → read (primitive_name source limits) f (t ∷ ts) ≡ outcome (at_primitive_word l) t f ts
  unfolding primitive_name
  primitive_word_ok looks.Name f t ts h = rw h refl
  primitive_word_ok _ f t ts h = rw h refl

  kept : (t : Left) (f : FileText) → perform_file source limits actions.Keep t f ≡ Ok f
  unfolding perform_file
  kept t f = refl

  abbrev line_item : ℕ → FileRule
  line_item line = one (is_beside source line) (λ u g. perform_file source limits actions.Keep u g) (λ u. none)

  line_one : (line : ℕ) (next : Left → Bool) → IsSimple (line_item line) next
  unfolding IsSimple
  line_one line next = λ t e. tt

  abbrev line_ends : ℕ → Reading → Reading
  line_ends line r = r >>= on (before (is_off source line))

  -- an item on the line
  pub line_stays : (line : ℕ) (l : Look) (f : FileText) (t : Left) (ts : List Left) → (t.token.span.line == line) ≡ true → look_of source t ≡ l → is_passed l ≡ true
      → read (line_rest source limits line) f (t ∷ ts) ≡ read (line_rest source limits line) f ts
  unfolding line_rest
  line_stays line l f t ts e h p =
      let passed : is_passed (look_of source t) ≡ true = rw h p in
      ap (line_ends line) (turns (line_item line) (λ u. false) (line_one line _) refl f t ts (rw (e, passed) refl)) ∙ rw (e, passed, kept t f) refl

  pub line_stops : (line : ℕ) (f : FileText) (t : Left) (ts : List Left) → (t.token.span.line == line) ≡ true → look_of source t ≡ looks.Barred
      → read (line_rest source limits line) f (t ∷ ts) ≡ Err (syntax (t ∷ ts))
  unfolding line_rest
  line_stops line f t ts e h = ap (line_ends line) (ends (line_item line) f t ts (rw (e, h) refl)) ∙ rw (e, h) refl

  pub line_ended : (line : ℕ) (f : FileText) (t : Left) (ts : List Left) → is_beside source line t ≡ false → is_off source line t ≡ true
      → read (line_rest source limits line) f (t ∷ ts) ≡ Ok (f, t ∷ ts)
  unfolding line_rest
  line_ended line f t ts b e = ap (line_ends line) (ends (line_item line) f t ts b) ∙ rw e refl

  -- ---- the rest of a part

  abbrev rest_ends : Reading → Reading
  rest_ends r = r >>= on (act source limits is_part_end actions.Keep none)

  pub rest_stays : (l : Look) (f : FileText) (t : Left) (ts : List Left) → look_of source t ≡ l → is_unread l ≡ true → read (part_rest source limits) f (t ∷ ts) ≡ read (part_rest source limits) f ts
  unfolding part_rest unread
  rest_stays l f t ts h p =
      let passed : is_unread (look_of source t) ≡ true = rw h p in
      ap rest_ends (turns (act source limits is_unread actions.Keep none) (λ u. false) (unread_one _) refl f t ts (rw passed refl)) ∙ rw (passed, kept t f) refl

  pub rest_closes : (l : Look) (f : FileText) (t : Left) (ts : List Left) → look_of source t ≡ l → is_unread l ≡ false → is_part_end l ≡ true → read (part_rest source limits) f (t ∷ ts) ≡ Ok (f, ts)
  unfolding part_rest unread
  rest_closes l f t ts h p q =
      let no : is_unread (look_of source t) ≡ false = rw h p in
      let yes : is_part_end (look_of source t) ≡ true = rw h q in
      ap rest_ends (ends (act source limits is_unread actions.Keep none) f t ts (rw no refl)) ∙ rw (yes, kept t f) refl

  pub rest_stops : (l : Look) (f : FileText) (t : Left) (ts : List Left) → look_of source t ≡ l → is_unread l ≡ false → is_part_end l ≡ false → read (part_rest source limits) f (t ∷ ts) ≡ Err (syntax (t ∷ ts))
  unfolding part_rest unread
  rest_stops l f t ts h p q =
      let no : is_unread (look_of source t) ≡ false = rw h p in
      let neither : is_part_end (look_of source t) ≡ false = rw h q in
      ap rest_ends (ends (act source limits is_unread actions.Keep none) f t ts (rw no refl)) ∙ rw neither refl
