-- Each token leads to what the grammar says.
use Rattle.std.proofs.Common.{◌≡◌, ℕ, zero, suc, ◌+◌, ◌-◌, ◌≤◌, leb, eqb, ◌++◌, Bool, true, false, cond, ◌||◌, ◌&&◌, List, [], ◌∷◌, Result, Ok, Err, refl, ap, ◌∙◌, arith}
use Rattle.std.proofs.lemmas.Bool.{leb-true}
use Rattle.text_scan.specs.declared.token.Token.{Token}
use Rattle.text_scan.specs.declared.limits.Limits.{Limits}
use Rattle.grammar.specs.Rule.{none, seq}
use Rattle.grammar.specs.Reading.{Stop, syntax, refusal, begins, acting, ◌>>=◌, read}
use Rattle.grammar.specs.Answers.{read_all, to_end}
use Rattle.grammar.proofs.Stops.{many_turn, many_end}
use Rattle.liberty_statements.specs.declared.halt.Refusal.{Refusal}
use Rattle.liberty_tokens.specs.declared.look.Look.{Look}
use Rattle.liberty_tokens.specs.declared.look.Look.TheVariants as looks
use Rattle.liberty_statements.specs.declared.machine.Phase.{Phase}
use Rattle.liberty_statements.specs.declared.machine.Phase.TheVariants as phases
use Rattle.liberty_statements.specs.declared.machine.Machine.{Machine}
use Rattle.liberty_statements.specs.declared.statements.Statements.{Statements}
use Rattle.liberty_tokens.specs.Looks.{look_of, text, is_word, is_arg, is_value, is_open_brace, is_close_brace, is_semicolon, is_comma}
use Rattle.liberty_tokens.specs.Words.{is_library, is_include}
use Rattle.liberty_statements.specs.Actions.{Outcome, is_outer, keep, begin_statement, add_arg, add_value, settle, enter, nested, entered, open_library, name_library, close}
use Rattle.liberty_statements.specs.Grammar.{LibertyRule, act, arg, more, mores, args, values, value_end, value, group_or_none, call_end, tail, statement, body, braces, finish, ending, last_brace, library_braces, title_end, title_name, title, file}
use Rattle.liberty_statements.specs.Steps.{Moved, moved, deepened, in_title, in_title_word, in_title_open, in_title_name, in_title_closed, in_closing, in_statement, in_word, in_value, in_open, in_arg, in_comma, unless_included, in_closed, in_library, in_semicolon, step}
use Rattle.liberty_statements.specs.ToCome.{after_body, rest, to_come, Answer, outcome, IsPlaced}
use Rattle.liberty_statements.proofs.Simple.{more_simple, one_simple, statement_simple, braces_are}

abbrev pub Read : Type 0
Read = Result (Statements × List Token) (Stop Token Refusal)

pub bind_assoc : (r : Read) (f g : Statements × List Token → Read) → ((r >>= f) >>= g) ≡ (r >>= λ x. f x >>= g)
bind_assoc (Ok x) f g = refl
bind_assoc (Err e) f g = refl

-- an action, and then
acting_bind : (o : Outcome) (f : Statements → Read) (ts : List Token) (k : Statements × List Token → Read)
    → (acting o f (λ e. Err (refusal e ts)) >>= k) ≡ acting o (λ m. f m >>= k) (λ e. Err (refusal e ts))
acting_bind (Ok m) f ts k = refl
acting_bind (Err e) f ts k = refl

acting_end : (o : Outcome) (f : Statements → Read) (ts : List Token) → to_end (acting o f (λ e. Err (refusal e ts))) ≡ acting o (λ m. to_end (f m)) (λ e. Err (refusal e ts))
acting_end (Ok m) f ts = refl
acting_end (Err e) f ts = refl

module _ (source : List ℕ) (limits : Limits) where
  abbrev then : LibertyRule → Statements × List Token → Read
  then c x = read c x.0 x.1

  -- ---- one token, and what follows it

  act_reads : (p : Look → Bool) (f : Token → Statements → Outcome) (c : LibertyRule) (s : Statements) (t : Token) (ts : List Token) → p (look_of source t) ≡ true
      → read (act source p f c) s (t ∷ ts) ≡ acting (f t s) (λ m. read c m ts) (λ e. Err (refusal e (t ∷ ts)))
  act_reads p f c s t ts h = rw h refl

  moves : (p : Phase) (m : Machine) (o : Outcome) (t : Token) (ts : List Token)
      → acting o (λ s. read_all (to_come source limits p m.depth m.room s.word) s ts) (λ e. Err (refusal e (t ∷ ts))) ≡ outcome source limits (moved p m o) t ts
  moves p m (Ok s) t ts = refl
  moves p m (Err e) t ts = refl

  -- ---- the title

  title_ok : (g : Bool) (m : Machine) (t : Token) (ts : List Token) → (is_word (look_of source t) && is_library (text source t)) ≡ g
      → read_all (file source limits m.room) m.statements (t ∷ ts) ≡ outcome source limits (in_title g m) t ts
  unfolding file keep
  title_ok true m t ts h = rw h refl
  title_ok false m t ts h = rw h refl

  title_word_ok : (l : Look) (m : Machine) (t : Token) (ts : List Token) → look_of source t ≡ l
      → read_all (title source limits m.room) m.statements (t ∷ ts) ≡ outcome source limits (in_title_word l m) t ts
  unfolding title keep
  title_word_ok looks.OpenParen m t ts h = rw h refl
  title_word_ok _ m t ts h = rw h refl

  title_open_ok : (l : Look) (m : Machine) (t : Token) (ts : List Token) → look_of source t ≡ l
      → read_all (title_name source limits m.room) m.statements (t ∷ ts) ≡ outcome source limits (in_title_open source limits t l m) t ts
  unfolding title_name
  title_open_ok looks.Word m t ts h = rw h (acting_end (name_library source limits t m.statements) _ _ ∙ moves phases.TitleName m (name_library source limits t m.statements) t ts)
  title_open_ok looks.Str m t ts h = rw h (acting_end (name_library source limits t m.statements) _ _ ∙ moves phases.TitleName m (name_library source limits t m.statements) t ts)
  title_open_ok _ m t ts h = rw h refl

  title_name_ok : (l : Look) (m : Machine) (t : Token) (ts : List Token) → look_of source t ≡ l
      → read_all (title_end source limits m.room) m.statements (t ∷ ts) ≡ outcome source limits (in_title_name l m) t ts
  unfolding title_end keep
  title_name_ok looks.CloseParen m t ts h = rw h refl
  title_name_ok _ m t ts h = rw h refl

  ending_ok : (l : Look) (m : Machine) (t : Token) (ts : List Token) → look_of source t ≡ l
      → read_all (ending source) m.statements (t ∷ ts) ≡ outcome source limits (in_library l m) t ts
  unfolding ending finish keep
  ending_ok looks.Semicolon m t ts h = rw h refl
  ending_ok looks.End m t ts h = rw h refl
  ending_ok _ m t ts h = rw h refl

  finish_ok : (l : Look) (m : Machine) (t : Token) (ts : List Token) → look_of source t ≡ l
      → read_all (finish source) m.statements (t ∷ ts) ≡ outcome source limits (in_semicolon l m) t ts
  unfolding finish keep
  finish_ok looks.End m t ts h = rw h refl
  finish_ok _ m t ts h = rw h refl

  title_closed_ok : (l : Look) (n : ℕ) (m : Machine) (t : Token) (ts : List Token) → m.room ≡ n → m.depth ≡ 0 → look_of source t ≡ l
      → read_all (library_braces source limits m.room) m.statements (t ∷ ts) ≡ outcome source limits (in_title_closed t l m) t ts
  unfolding library_braces open_library nested rest
  title_closed_ok looks.OpenBrace zero m t ts r d h = rw (r, h) refl
  title_closed_ok looks.OpenBrace (suc k) m t ts r d h = let e : suc k - 1 ≡ k = omega arith in let f : m.depth + 1 ≡ 1 = omega arith in rw (r, h, e, f) refl
  title_closed_ok _ zero m t ts r d h = rw (r, h) refl
  title_closed_ok _ (suc k) m t ts r d h = rw (r, h) refl

  -- ---- statements

  turn_body : (n : ℕ) (s : Statements) (t : Token) (ts : List Token) → begins (statement source limits (braces source limits n)) t ≡ true
      → read (body source limits (braces source limits n)) s (t ∷ ts) ≡ (read (statement source limits (braces source limits n)) s (t ∷ ts) >>= then (body source limits (braces source limits n)))
  unfolding body statement
  turn_body n s t ts st = many_turn (statement source limits (braces source limits n)) (λ u. is_close_brace (look_of source u)) (statement_simple source limits (braces source limits n) (braces_are source limits n) _ (λ u e. rw e refl)) refl s (t ∷ ts) st

  end_body : (n : ℕ) (s : Statements) (t : Token) (ts : List Token) → begins (statement source limits (braces source limits n)) t ≡ false
      → read (body source limits (braces source limits n)) s (t ∷ ts) ≡ Ok (s, t ∷ ts)
  unfolding body
  end_body n s t ts st = many_end (statement source limits (braces source limits n)) s (t ∷ ts) st

  begins_statement : (l : Look) (g : LibertyRule) (t : Token) → look_of source t ≡ l → begins (statement source limits g) t ≡ (is_semicolon l || is_word l)
  unfolding statement
  begins_statement l g t h = rw h refl

  semicolon_read : (g : LibertyRule) (s : Statements) (t : Token) (ts : List Token) → look_of source t ≡ looks.Semicolon → read (statement source limits g) s (t ∷ ts) ≡ Ok (s, ts)
  unfolding statement keep
  semicolon_read g s t ts h = rw h refl

  word_read : (g : LibertyRule) (s : Statements) (t : Token) (ts : List Token) → look_of source t ≡ looks.Word
      → read (statement source limits g) s (t ∷ ts) ≡ read (tail source limits g t) (record s { word = t; args = [] }) ts
  unfolding statement begin_statement
  word_read g s t ts h = rw h refl

  after_bad : (d r : ℕ) (s : Statements) (t : Token) (ts : List Token) → is_close_brace (look_of source t) ≡ false → read_all (after_body source limits d r) s (t ∷ ts) ≡ Err (syntax (t ∷ ts))
  unfolding last_brace
  after_bad zero r s t ts h = refl
  after_bad (suc zero) r s t ts h = rw h refl
  after_bad (suc (suc d)) r s t ts h = rw h refl

  deeper : (n : ℕ) → 2 ≤ n → leb n 1 ≡ false
  deeper n h = go (leb n 1) refl
    where
      go : (g : Bool) → leb n 1 ≡ g → g ≡ false
      go true e = absurd (let less = leb-true n 1 e in omega arith)
      go false e = refl

  closing_ok : (d : ℕ) (m : Machine) (t : Token) (ts : List Token) → m.depth ≡ d → 1 ≤ d → look_of source t ≡ looks.CloseBrace
      → read_all (after_body source limits m.depth m.room) m.statements (t ∷ ts) ≡ outcome source limits (in_closing source m) t ts
  unfolding last_brace settle close in_closing rest
  closing_ok zero m t ts d deep h = absurd (omega arith)
  closing_ok (suc zero) m t ts d deep h = rw (d, h) refl
  closing_ok (suc (suc k)) m t ts d deep h =
      let e : m.depth - 1 ≡ suc k = omega arith in
      let f : m.room + 1 ≡ suc m.room = omega arith in
      let g : leb m.depth 1 ≡ false = deeper m.depth (omega arith) in
      rw (g, e, f, d, h) refl

  rest_ends : (n d : ℕ) (s : Statements) (t : Token) (ts : List Token) → begins (statement source limits (braces source limits n)) t ≡ false
      → read_all (rest source limits d n) s (t ∷ ts) ≡ read_all (after_body source limits d n) s (t ∷ ts)
  unfolding rest
  rest_ends n d s t ts st = ap (λ r. to_end (r >>= then (after_body source limits d n))) (end_body n s t ts st)

  pub statement_ok : (l : Look) (m : Machine) (t : Token) (ts : List Token) → 1 ≤ m.depth → look_of source t ≡ l
      → read_all (rest source limits m.depth m.room) m.statements (t ∷ ts) ≡ outcome source limits (in_statement source t l m) t ts
  unfolding rest begin_statement
  statement_ok looks.Semicolon m t ts deep h =
      ap (λ r. to_end (r >>= then (after_body source limits m.depth m.room)))
      (turn_body m.room m.statements t ts (begins_statement looks.Semicolon _ t h) ∙ ap (λ r. r >>= then (body source limits (braces source limits m.room))) (semicolon_read _ m.statements t ts h))
  statement_ok looks.Word m t ts deep h =
      ap (λ r. to_end (r >>= then (after_body source limits m.depth m.room)))
      (turn_body m.room m.statements t ts (begins_statement looks.Word _ t h) ∙ ap (λ r. r >>= then (body source limits (braces source limits m.room))) (word_read _ m.statements t ts h))
      ∙ ap to_end (bind_assoc (read (tail source limits (braces source limits m.room) t) (record m.statements { word = t; args = [] }) ts) (then (body source limits (braces source limits m.room))) (then (after_body source limits m.depth m.room)))
  statement_ok looks.CloseBrace m t ts deep h = rest_ends m.room m.depth m.statements t ts (begins_statement looks.CloseBrace _ t h) ∙ closing_ok m.depth m t ts refl deep h
  statement_ok l m t ts deep h = rest_ends m.room m.depth m.statements t ts (begins_statement l _ t h) ∙ after_bad m.depth m.room m.statements t ts (rw h refl)

  -- ---- a statement's word, and its value

  word_ok : (l : Look) (m : Machine) (t : Token) (ts : List Token) → look_of source t ≡ l
      → read_all (to_come source limits phases.Word m.depth m.room m.statements.word) m.statements (t ∷ ts) ≡ outcome source limits (in_word l m) t ts
  unfolding tail keep
  word_ok looks.Colon m t ts h = rw h refl
  word_ok looks.OpenParen m t ts h = rw h refl
  word_ok _ m t ts h = rw h refl

  add_ok : (m : Machine) (t : Token) (ts : List Token) → is_value (look_of source t) ≡ true
      → read_all (to_come source limits phases.Value m.depth m.room m.statements.word) m.statements (t ∷ ts) ≡ outcome source limits (moved phases.Value m (add_value source limits t m.statements)) t ts
  unfolding value values
  add_ok m t ts h =
      ap (λ r. to_end ((r >>= then (value_end source)) >>= then (rest source limits m.depth m.room)))
      (many_turn (act source is_value (add_value source limits) none) (λ u. false) (one_simple source limits _) refl m.statements (t ∷ ts) h
      ∙ ap (λ r. r >>= then (values source limits)) (act_reads is_value (add_value source limits) none m.statements t ts h))
      ∙ go (add_value source limits t m.statements)
    where
      go : (o : Outcome)
          → to_end (((acting o (λ s. read none s ts) (λ e. Err (refusal e (t ∷ ts))) >>= then (values source limits)) >>= then (value_end source)) >>= then (rest source limits m.depth m.room))
          ≡ outcome source limits (moved phases.Value m o) t ts
      go (Ok s) = refl
      go (Err e) = refl

  value_ends : (m : Machine) (t : Token) (ts : List Token) → is_value (look_of source t) ≡ false
      → read_all (to_come source limits phases.Value m.depth m.room m.statements.word) m.statements (t ∷ ts) ≡ to_end (read (value_end source) m.statements (t ∷ ts) >>= then (rest source limits m.depth m.room))
  unfolding value values
  value_ends m t ts h = ap (λ r. to_end ((r >>= then (value_end source)) >>= then (rest source limits m.depth m.room))) (many_end (act source is_value (add_value source limits) none) m.statements (t ∷ ts) h)

  value_ok : (l : Look) (m : Machine) (t : Token) (ts : List Token) → 1 ≤ m.depth → look_of source t ≡ l
      → read_all (to_come source limits phases.Value m.depth m.room m.statements.word) m.statements (t ∷ ts) ≡ outcome source limits (in_value source limits t l m) t ts
  unfolding value_end settle
  value_ok looks.Semicolon m t ts deep h = value_ends m t ts (rw h refl) ∙ rw h refl
  value_ok looks.LineEnd m t ts deep h = value_ends m t ts (rw h refl) ∙ rw h refl
  value_ok looks.CloseBrace m t ts deep h = value_ends m t ts (rw h refl) ∙ rw h (statement_ok looks.CloseBrace m t ts deep h)
  value_ok looks.OpenBrace m t ts deep h = value_ends m t ts (rw h refl) ∙ rw h refl
  value_ok looks.Colon m t ts deep h = value_ends m t ts (rw h refl) ∙ rw h refl
  value_ok looks.End m t ts deep h = value_ends m t ts (rw h refl) ∙ rw h refl
  value_ok looks.Unfinished m t ts deep h = value_ends m t ts (rw h refl) ∙ rw h refl
  value_ok looks.Unnamed m t ts deep h = value_ends m t ts (rw h refl) ∙ rw h refl
  value_ok l m t ts deep h = add_ok m t ts (rw h refl)

  -- ---- arguments

  no_args : (s : Statements) (t : Token) (ts : List Token) → is_arg (look_of source t) ≡ false → read (args source) s (t ∷ ts) ≡ Ok (s, t ∷ ts)
  unfolding args arg
  no_args s t ts h = rw h refl

  some_args : (s : Statements) (t : Token) (ts : List Token) → is_arg (look_of source t) ≡ true → read (args source) s (t ∷ ts) ≡ read (mores source) (record s { args = cond (eqb s.passed 0 && is_outer s.level) (s.args ++ t ∷ []) s.args }) ts
  unfolding args arg add_arg
  some_args s t ts h = rw h refl

  pub open_ok : (l : Look) (m : Machine) (t : Token) (ts : List Token) → look_of source t ≡ l
      → read_all (to_come source limits phases.Open m.depth m.room m.statements.word) m.statements (t ∷ ts) ≡ outcome source limits (in_open t l m) t ts
  unfolding call_end keep add_arg
  open_ok looks.Word m t ts h = ap (λ r. to_end ((r >>= then (call_end source (braces source limits m.room) m.statements.word)) >>= then (rest source limits m.depth m.room))) (some_args m.statements t ts (rw h refl))
  open_ok looks.Str m t ts h = ap (λ r. to_end ((r >>= then (call_end source (braces source limits m.room) m.statements.word)) >>= then (rest source limits m.depth m.room))) (some_args m.statements t ts (rw h refl))
  open_ok looks.CloseParen m t ts h = ap (λ r. to_end ((r >>= then (call_end source (braces source limits m.room) m.statements.word)) >>= then (rest source limits m.depth m.room))) (no_args m.statements t ts (rw h refl)) ∙ rw h refl
  open_ok l m t ts h = ap (λ r. to_end ((r >>= then (call_end source (braces source limits m.room) m.statements.word)) >>= then (rest source limits m.depth m.room))) (no_args m.statements t ts (rw h refl)) ∙ rw h refl

  begins_more : (l : Look) (t : Token) → look_of source t ≡ l → begins (more source) t ≡ (is_arg l || is_comma l)
  unfolding more arg
  begins_more l t h = rw h refl

  turn_more : (c d : LibertyRule) (s : Statements) (t : Token) (ts : List Token) → begins (more source) t ≡ true
      → read_all (seq (seq (mores source) c) d) s (t ∷ ts) ≡ to_end (((read (more source) s (t ∷ ts) >>= then (mores source)) >>= then c) >>= then d)
  unfolding mores more arg
  turn_more c d s t ts st = ap (λ r. to_end ((r >>= then c) >>= then d)) (many_turn (more source) (λ u. false) (more_simple source limits _) refl s (t ∷ ts) st)

  end_more : (c d : LibertyRule) (s : Statements) (t : Token) (ts : List Token) → begins (more source) t ≡ false
      → read_all (seq (seq (mores source) c) d) s (t ∷ ts) ≡ to_end (read c s (t ∷ ts) >>= then d)
  unfolding mores
  end_more c d s t ts st = ap (λ r. to_end ((r >>= then c) >>= then d)) (many_end (more source) s (t ∷ ts) st)

  pub arg_ok : (l : Look) (m : Machine) (t : Token) (ts : List Token) → look_of source t ≡ l
      → read_all (to_come source limits phases.Arg m.depth m.room m.statements.word) m.statements (t ∷ ts) ≡ outcome source limits (in_arg t l m) t ts
  unfolding more arg call_end keep add_arg
  arg_ok looks.Word m t ts h = turn_more (call_end source (braces source limits m.room) m.statements.word) (rest source limits m.depth m.room) m.statements t ts (begins_more looks.Word t h) ∙ rw h refl
  arg_ok looks.Str m t ts h = turn_more (call_end source (braces source limits m.room) m.statements.word) (rest source limits m.depth m.room) m.statements t ts (begins_more looks.Str t h) ∙ rw h refl
  arg_ok looks.Comma m t ts h = turn_more (call_end source (braces source limits m.room) m.statements.word) (rest source limits m.depth m.room) m.statements t ts (begins_more looks.Comma t h) ∙ rw h refl
  arg_ok looks.CloseParen m t ts h = end_more (call_end source (braces source limits m.room) m.statements.word) (rest source limits m.depth m.room) m.statements t ts (begins_more looks.CloseParen t h) ∙ rw h refl
  arg_ok l m t ts h = end_more (call_end source (braces source limits m.room) m.statements.word) (rest source limits m.depth m.room) m.statements t ts (begins_more l t h) ∙ rw h refl

  comma_ok : (l : Look) (m : Machine) (t : Token) (ts : List Token) → look_of source t ≡ l
      → read_all (to_come source limits phases.Comma m.depth m.room m.statements.word) m.statements (t ∷ ts) ≡ outcome source limits (in_comma t l m) t ts
  unfolding arg add_arg
  comma_ok looks.Word m t ts h = rw h refl
  comma_ok looks.Str m t ts h = rw h refl
  comma_ok _ m t ts h = rw h refl

  -- ---- groups

  braces_bad : (n : ℕ) (s : Statements) (t : Token) (ts : List Token) → is_open_brace (look_of source t) ≡ false → read (braces source limits n) s (t ∷ ts) ≡ Err (syntax (t ∷ ts))
  unfolding braces
  braces_bad zero s t ts h = rw h refl
  braces_bad (suc n) s t ts h = rw h refl

  begins_braces : (n : ℕ) (t : Token) → begins (braces source limits n) t ≡ is_open_brace (look_of source t)
  begins_braces n t = (braces_are source limits n).first t

  -- no group where one may stand
  no_group : (n : ℕ) (must : Bool) (c : LibertyRule) (s : Statements) (t : Token) (ts : List Token) → is_open_brace (look_of source t) ≡ false
      → read_all (seq (group_or_none must (braces source limits n)) c) s (t ∷ ts) ≡ cond must (Err (syntax (t ∷ ts))) (read_all c s (t ∷ ts))
  no_group n true c s t ts h = ap (λ r. to_end (r >>= then c)) (braces_bad n s t ts h)
  no_group n false c s t ts h = let e = begins_braces n t ∙ h in rw e refl

  some_group : (n : ℕ) (must : Bool) (c : LibertyRule) (s : Statements) (t : Token) (ts : List Token) → is_open_brace (look_of source t) ≡ true
      → read_all (seq (group_or_none must (braces source limits n)) c) s (t ∷ ts) ≡ to_end (read (braces source limits n) s (t ∷ ts) >>= then c)
  some_group n true c s t ts h = refl
  some_group n false c s t ts h = let e = begins_braces n t ∙ h in rw e refl

  abbrev Entering : Machine → Token → List Token → Type 0
  Entering m t ts = to_end (read (braces source limits m.room) m.statements (t ∷ ts) >>= then (rest source limits m.depth m.room)) ≡ outcome source limits (deepened m (enter source limits m.room t m.statements)) t ts

  enter_none : (m : Machine) (t : Token) (ts : List Token) → m.room ≡ 0 → look_of source t ≡ looks.OpenBrace → Entering m t ts
  unfolding braces enter nested
  enter_none m t ts r h = go (entered source limits m.statements) refl
    where
      go : (o : Outcome) → entered source limits m.statements ≡ o → Entering m t ts
      go (Ok s) i = rw (r, h, i) refl
      go (Err f) i = rw (r, h, i) refl

  enter_some : (k d : ℕ) (m : Machine) (t : Token) (ts : List Token) → m.room ≡ suc k → m.depth ≡ suc d → look_of source t ≡ looks.OpenBrace → Entering m t ts
  unfolding braces rest
  enter_some k d m t ts r e h = go (enter source limits (suc k) t m.statements) refl
    where
      go : (o : Outcome) → enter source limits (suc k) t m.statements ≡ o → Entering m t ts
      go (Err f) i = rw (r, h, i) refl
      go (Ok s) i =
          let less : suc k - 1 ≡ k = omega arith in
          let next : suc d + 1 ≡ suc (suc d) = omega arith in
          rw (r, e, h, i, less, next) (ap to_end (bind_assoc (read (body source limits (braces source limits k)) s ts) (then (act source is_close_brace (close source) none)) (then (seq (body source limits (braces source limits (suc k))) (after_body source limits (suc d) (suc k))))))

  braces_ok : (n d : ℕ) (m : Machine) (t : Token) (ts : List Token) → m.room ≡ n → m.depth ≡ d → 1 ≤ d → look_of source t ≡ looks.OpenBrace → Entering m t ts
  braces_ok n zero m t ts r e deep h = absurd (omega arith)
  braces_ok zero (suc d) m t ts r e deep h = enter_none m t ts r h
  braces_ok (suc k) (suc d) m t ts r e deep h = enter_some k d m t ts r e h

  unless_is : (must : Bool) (next : Moved) (t : Token) (ts : List Token) (c : Answer) → c ≡ outcome source limits next t ts → cond must (Err (syntax (t ∷ ts))) c ≡ outcome source limits (unless_included must next) t ts
  unless_is true next t ts c h = refl
  unless_is false next t ts c h = h

  pub closed_ok : (l : Look) (m : Machine) (t : Token) (ts : List Token) → 1 ≤ m.depth → look_of source t ≡ l
      → read_all (to_come source limits phases.Closed m.depth m.room m.statements.word) m.statements (t ∷ ts) ≡ outcome source limits (in_closed source limits t l m) t ts
  closed_ok looks.OpenBrace m t ts deep h = some_group m.room (is_include (text source m.statements.word)) (rest source limits m.depth m.room) m.statements t ts (rw h refl) ∙ braces_ok m.room m.depth m t ts refl refl deep h
  closed_ok l m t ts deep h =
      no_group m.room (is_include (text source m.statements.word)) (rest source limits m.depth m.room) m.statements t ts (rw h refl)
      ∙ unless_is (is_include (text source m.statements.word)) (in_statement source t l m) t ts (read_all (rest source limits m.depth m.room) m.statements (t ∷ ts)) (statement_ok l m t ts deep h)

  -- ---- all of them

  pub step_ok : (p : Phase) (m : Machine) (t : Token) (ts : List Token) → IsPlaced p m.depth
      → read_all (to_come source limits p m.depth m.room m.statements.word) m.statements (t ∷ ts) ≡ outcome source limits (step source limits t (look_of source t) p m) t ts
  unfolding step
  step_ok phases.Title m t ts d = title_ok (is_word (look_of source t) && is_library (text source t)) m t ts refl
  step_ok phases.TitleWord m t ts d = title_word_ok (look_of source t) m t ts refl
  step_ok phases.TitleOpen m t ts d = title_open_ok (look_of source t) m t ts refl
  step_ok phases.TitleName m t ts d = title_name_ok (look_of source t) m t ts refl
  step_ok phases.TitleClosed m t ts d = title_closed_ok (look_of source t) m.room m t ts refl d refl
  step_ok phases.Statement m t ts d = statement_ok (look_of source t) m t ts d refl
  step_ok phases.Word m t ts d = word_ok (look_of source t) m t ts refl
  step_ok phases.Value m t ts d = value_ok (look_of source t) m t ts d refl
  step_ok phases.Open m t ts d = open_ok (look_of source t) m t ts refl
  step_ok phases.Arg m t ts d = arg_ok (look_of source t) m t ts refl
  step_ok phases.Comma m t ts d = comma_ok (look_of source t) m t ts refl
  step_ok phases.Closed m t ts d = closed_ok (look_of source t) m t ts d refl
  step_ok phases.Library m t ts d = ending_ok (look_of source t) m t ts refl
  step_ok phases.Semicolon m t ts d = finish_ok (look_of source t) m t ts refl
  step_ok phases.File m t ts d = refl
