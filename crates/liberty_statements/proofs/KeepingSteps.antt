-- Each token leaves what is kept well.
use Rattle.std.proofs.Common.{◌≡◌, ◌≤◌, ℕ, zero, suc, leb, Bool, true, false, ◌&&◌, List, [], ◌∷◌, subst, Option, None, Result, Ok, Err, refl, sym, ap, ◌∙◌, arith}
use Rattle.text_scan.specs.declared.token.Token.{Token}
use Rattle.text_scan.specs.declared.token.Style.TheVariants as styles
use Rattle.text_scan.specs.declared.limits.Limits.{Limits}
use Rattle.text_scan.specs.Tokens.{tokens_of}
use Rattle.grammar.specs.Answers.{read_all}
use Rattle.grammar.specs.Rule.{seq}
use Rattle.liberty_tokens.specs.declared.look.Look.{Look}
use Rattle.liberty_tokens.specs.declared.look.Look.TheVariants as looks
use Rattle.liberty_tokens.specs.Looks.{look_of, text, is_word, shows}
use Rattle.liberty_tokens.specs.Words.{is_library, is_include}
use Rattle.liberty_statements.specs.declared.halt.Halt.{Halt}
use Rattle.liberty_statements.specs.declared.halt.Halt.TheVariants as halts
use Rattle.liberty_statements.specs.declared.machine.Phase.{Phase}
use Rattle.liberty_statements.specs.declared.machine.Phase.TheVariants as phases
use Rattle.liberty_statements.specs.declared.machine.Machine.{Machine}
use Rattle.liberty_statements.specs.declared.statements.Statements.{Statements}
use Rattle.liberty_statements.specs.Actions.{Outcome, add_arg, add_value, begin_statement, enter, name_library, open_library, settle, settled}
use Rattle.liberty_statements.specs.Answer.{file_tokens, library_file}
use Rattle.liberty_statements.specs.Does.{beginning, nothing}
use Rattle.liberty_statements.specs.Grammar.{arg, args, body, braces, call_end, ending, file, finish, group_or_none, last_brace, library_braces, more, mores, tail, title, title_end, title_name, value, value_end, values}
use Rattle.liberty_statements.specs.Steps.{Moved, deepened, in_arg, in_closed, in_closing, in_comma, in_library, in_open, in_semicolon, in_statement, in_title, in_title_closed, in_title_name, in_title_open, in_title_word, in_value, in_word, is_in_value, moved, step, step_if, taken, unless_included}
use Rattle.liberty_statements.specs.ToCome.{Answer, IsPlaced, after_body, reads, rest, stop, to_come}
use Rattle.liberty_statements.proofs.Keeping.{Begun, Body, IsKept, Valued, arg_added, body_kept, group_begun, group_ended, library_begun, library_named, value_added, value_settled, valued, word_begun}
use Rattle.liberty_statements.proofs.Takes.{leads_to, reads_left, take_ok, take_placed}
use Rattle.liberty_statements.proofs.WholeText.{start_ok}

module _ (source : List ℕ) (limits : Limits) where
  -- what holds in each phase
  abbrev Fits : Phase → Statements → Type 0
  Fits phases.Title s = Begun source limits s
  Fits phases.TitleWord s = Begun source limits s
  Fits phases.TitleOpen s = Begun source limits s
  Fits phases.Value s = Valued source limits s
  Fits _ s = Body source limits s

  abbrev FitsThen : Moved → Type 0
  FitsThen (Ok n) = Fits n.phase n.statements
  FitsThen (Err e) = Unit {0}

  moved_fits : (p : Phase) (m : Machine) (o : Outcome) → ((s : Statements) → o ≡ Ok s → Fits p s) → FitsThen (moved p m o)
  moved_fits p m (Ok s) f = f s refl
  moved_fits p m (Err e) f = tt

  deepened_fits : (m : Machine) (o : Outcome) → ((s : Statements) → o ≡ Ok s → Body source limits s) → FitsThen (deepened m o)
  deepened_fits m (Ok s) f = f s refl
  deepened_fits m (Err e) f = tt

  closing_fits : (m : Machine) → Valued source limits m.statements → FitsThen (in_closing source m)
  unfolding in_closing
  closing_fits m h = go (leb m.depth 1) refl
    where
      go : (g : Bool) → leb m.depth 1 ≡ g → FitsThen (in_closing source m)
      go true e = rw e (value_settled source limits m.statements h)
      go false e = rw e (group_ended source limits (settled source m.statements) (value_settled source limits m.statements h))

  statement_fits : (t : Token) (l : Look) (m : Machine) → Body source limits m.statements → FitsThen (in_statement source t l m)
  statement_fits t looks.Semicolon m h = h
  statement_fits t looks.Word m h = moved_fits phases.Word m (begin_statement t m.statements) (λ s e. word_begun source limits t m.statements s h e)
  statement_fits t looks.CloseBrace m h = closing_fits m (valued source limits m.statements h)
  statement_fits t _ m h = tt

  word_fits : (l : Look) (m : Machine) → Body source limits m.statements → FitsThen (in_word l m)
  word_fits looks.Colon m h = valued source limits m.statements h
  word_fits looks.OpenParen m h = h
  word_fits _ m h = tt

  ended_fits : (t : Token) (m : Machine) → Valued source limits m.statements → FitsThen (moved phases.Statement m (settle source t m.statements))
  unfolding settle
  ended_fits t m h = value_settled source limits m.statements h

  value_fits : (t : Token) (l : Look) (m : Machine) → Valued source limits m.statements → FitsThen (in_value source limits t l m)
  value_fits t looks.Semicolon m h = ended_fits t m h
  value_fits t looks.LineEnd m h = ended_fits t m h
  value_fits t looks.CloseBrace m h = closing_fits m h
  value_fits t looks.OpenBrace m h = tt
  value_fits t looks.Colon m h = tt
  value_fits t looks.End m h = tt
  value_fits t looks.Unfinished m h = tt
  value_fits t looks.Unnamed m h = tt
  value_fits t l m h = moved_fits phases.Value m (add_value source limits t m.statements) (λ s e. value_added source limits t m.statements s h e)

  added_fits : (t : Token) (m : Machine) → Body source limits m.statements → FitsThen (moved phases.Arg m (add_arg t m.statements))
  added_fits t m h = moved_fits phases.Arg m (add_arg t m.statements) (λ s e. arg_added source limits t m.statements s h e)

  open_fits : (t : Token) (l : Look) (m : Machine) → Body source limits m.statements → FitsThen (in_open t l m)
  open_fits t looks.Word m h = added_fits t m h
  open_fits t looks.Str m h = added_fits t m h
  open_fits t looks.CloseParen m h = h
  open_fits t _ m h = tt

  arg_fits : (t : Token) (l : Look) (m : Machine) → Body source limits m.statements → FitsThen (in_arg t l m)
  arg_fits t looks.Word m h = added_fits t m h
  arg_fits t looks.Str m h = added_fits t m h
  arg_fits t looks.Comma m h = h
  arg_fits t looks.CloseParen m h = h
  arg_fits t _ m h = tt

  comma_fits : (t : Token) (l : Look) (m : Machine) → Body source limits m.statements → FitsThen (in_comma t l m)
  comma_fits t looks.Word m h = added_fits t m h
  comma_fits t looks.Str m h = added_fits t m h
  comma_fits t _ m h = tt

  unless_fits : (g : Bool) (next : Moved) → FitsThen next → FitsThen (unless_included g next)
  unless_fits true next h = tt
  unless_fits false next h = h

  closed_fits : (t : Token) (l : Look) (m : Machine) → Body source limits m.statements → FitsThen (in_closed source limits t l m)
  closed_fits t looks.OpenBrace m h = deepened_fits m (enter source limits m.room t m.statements) (λ s e. group_begun source limits m.room t m.statements s h e)
  closed_fits t l m h = unless_fits (is_include (text source m.statements.word)) (in_statement source t l m) (statement_fits t l m h)

  title_fits : (g : Bool) (m : Machine) → Begun source limits m.statements → FitsThen (in_title g m)
  title_fits true m h = h
  title_fits false m h = tt

  title_word_fits : (l : Look) (m : Machine) → Begun source limits m.statements → FitsThen (in_title_word l m)
  title_word_fits looks.OpenParen m h = h
  title_word_fits _ m h = tt

  title_open_fits : (t : Token) (l : Look) (m : Machine) → Begun source limits m.statements → FitsThen (in_title_open source limits t l m)
  title_open_fits t looks.Word m h = moved_fits phases.TitleName m (name_library source limits t m.statements) (λ s e. library_named source limits t m.statements s h e)
  title_open_fits t looks.Str m h = moved_fits phases.TitleName m (name_library source limits t m.statements) (λ s e. library_named source limits t m.statements s h e)
  title_open_fits t _ m h = tt

  title_name_fits : (l : Look) (m : Machine) → Body source limits m.statements → FitsThen (in_title_name l m)
  title_name_fits looks.CloseParen m h = h
  title_name_fits _ m h = tt

  title_closed_fits : (t : Token) (l : Look) (m : Machine) → Body source limits m.statements → FitsThen (in_title_closed t l m)
  title_closed_fits t looks.OpenBrace m h = deepened_fits m (open_library m.room t m.statements) (λ s e. library_begun source limits m.room t m.statements s h e)
  title_closed_fits t _ m h = tt

  library_fits : (l : Look) (m : Machine) → Body source limits m.statements → FitsThen (in_library l m)
  library_fits looks.Semicolon m h = h
  library_fits looks.End m h = h
  library_fits _ m h = tt

  semicolon_fits : (l : Look) (m : Machine) → Body source limits m.statements → FitsThen (in_semicolon l m)
  semicolon_fits looks.End m h = h
  semicolon_fits _ m h = tt

  step_fits : (t : Token) (l : Look) (p : Phase) (m : Machine) → Fits p m.statements → FitsThen (step source limits t l p m)
  unfolding step
  step_fits t l phases.Title m h = title_fits (is_word l && is_library (text source t)) m h
  step_fits t l phases.TitleWord m h = title_word_fits l m h
  step_fits t l phases.TitleOpen m h = title_open_fits t l m h
  step_fits t l phases.TitleName m h = title_name_fits l m h
  step_fits t l phases.TitleClosed m h = title_closed_fits t l m h
  step_fits t l phases.Statement m h = statement_fits t l m h
  step_fits t l phases.Word m h = word_fits l m h
  step_fits t l phases.Value m h = value_fits t l m h
  step_fits t l phases.Open m h = open_fits t l m h
  step_fits t l phases.Arg m h = arg_fits t l m h
  step_fits t l phases.Comma m h = comma_fits t l m h
  step_fits t l phases.Closed m h = closed_fits t l m h
  step_fits t l phases.Library m h = library_fits l m h
  step_fits t l phases.Semicolon m h = semicolon_fits l m h
  step_fits t l phases.File m h = tt

  taken_fits : (t : Token) (m : Machine) → Fits m.phase m.statements → FitsThen (taken source limits t m)
  unfolding taken
  taken_fits t m h = go (shows (is_in_value m.phase) (look_of source t))
    where
      go : (g : Bool) → FitsThen (step_if g (step source limits t (look_of source t) m.phase m) m)
      go true = step_fits t (look_of source t) m.phase m h
      go false = h

  -- ---- where no token is left

  rest_none : (depth room : ℕ) (s n : Statements) → 1 ≤ depth → read_all (rest source limits depth room) s [] ≡ Ok n → ⊥
  unfolding rest body last_brace
  rest_none zero room s n d e = absurd (omega arith)
  rest_none (suc zero) room s n d e = cc e
  rest_none (suc (suc depth)) room s n d e = cc e

  closed_none : (must : Bool) (depth room : ℕ) (s n : Statements) → 1 ≤ depth → read_all (seq (group_or_none must (braces source limits room)) (rest source limits depth room)) s [] ≡ Ok n → ⊥
  unfolding braces
  closed_none true depth zero s n d e = cc e
  closed_none true depth (suc room) s n d e = cc e
  closed_none false depth room s n d e = rest_none depth room s n d e

  braces_none : (room : ℕ) (s n : Statements) → read_all (library_braces source limits room) s [] ≡ Ok n → ⊥
  unfolding library_braces
  braces_none zero s n e = cc e
  braces_none (suc room) s n e = cc e

  -- only a whole file ends
  ends_whole : (p : Phase) (depth room : ℕ) (w : Token) (s n : Statements) → IsPlaced p depth → read_all (to_come source limits p depth room w) s [] ≡ Ok n → (p ≡ phases.File) × (s ≡ n)
  unfolding file title title_name title_end tail value values value_end args arg mores more call_end ending finish
  ends_whole phases.Title depth room w s n d e = cc e
  ends_whole phases.TitleWord depth room w s n d e = cc e
  ends_whole phases.TitleOpen depth room w s n d e = cc e
  ends_whole phases.TitleName depth room w s n d e = cc e
  ends_whole phases.TitleClosed depth room w s n d e = absurd (braces_none room s n e)
  ends_whole phases.Statement depth room w s n d e = absurd (rest_none depth room s n d e)
  ends_whole phases.Word depth room w s n d e = cc e
  ends_whole phases.Value depth room w s n d e = cc e
  ends_whole phases.Open depth room w s n d e = cc e
  ends_whole phases.Arg depth room w s n d e = cc e
  ends_whole phases.Comma depth room w s n d e = cc e
  ends_whole phases.Closed depth room w s n d e = absurd (closed_none (is_include (text source w)) depth room s n d e)
  ends_whole phases.Library depth room w s n d e = cc e
  ends_whole phases.Semicolon depth room w s n d e = cc e
  ends_whole phases.File depth room w s n d e = (refl, cc e)

  stopped_none : (h : Halt) (ts : List Token) (n : Statements) → stop h ts ≡ Ok n → ⊥
  stopped_none halts.Syntax ts n e = cc e
  stopped_none halts.NoMemory ts n e = cc e
  stopped_none (halts.Refused r) ts n e = cc e

  ended_kept : (p : Phase) (s : Statements) → p ≡ phases.File → Fits p s → IsKept source limits s
  ended_kept p s e h = let file = rw e at h in body_kept source limits s file

  -- what is read to the end is kept well
  reads_well : (ts : List Token) (m : Machine) (n : Statements) → IsPlaced m.phase m.depth → Fits m.phase m.statements → reads_left source limits m ts ≡ Ok n → IsKept source limits n
  reads_well [] m n d h e =
      let whole = ends_whole m.phase m.depth m.room m.statements.word m.statements n d e in
      subst (IsKept source limits) whole.1 (ended_kept m.phase m.statements whole.0 h)
  reads_well (t ∷ ts) m n d h e = go (taken source limits t m) refl (taken_fits t m h) (sym (take_ok source limits m t ts d) ∙ e) (λ k p f g. reads_well ts k n p f g)
    where
      go : (o : Moved) → taken source limits t m ≡ o → FitsThen o → leads_to source limits m o t ts ≡ Ok n
          → ((k : Machine) → IsPlaced k.phase k.depth → Fits k.phase k.statements → reads_left source limits k ts ≡ Ok n → IsKept source limits n) → IsKept source limits n
      go (Ok k) i f g rest = rest k (take_placed source limits m k t d i) f g
      go (Err r) i f g rest = absurd (stopped_none r _ n g)

  -- the statements of a text are kept well
  pub statements_kept : (n : Statements) → read_all (library_file source limits) nothing (file_tokens source) ≡ Ok n → IsKept source limits n
  statements_kept n e =
      let begun : Begun source limits nothing = record {
        keeps = record {
          cells = refl;
          distinct = refl;
          at = record { few = omega arith; names = refl; groups = refl; pins = refl; attributes = refl };
        };
        none = refl;
      } in
      reads_well (tokens_of styles.Liberty source) (beginning limits.nesting) n refl begun (start_ok source limits (tokens_of styles.Liberty source) refl ∙ e)
