-- One token of look-ahead is enough.
use Rattle.std.proofs.Common.{◌≡◌, ℕ, zero, suc, Bool, true, false, ◌||◌, ◌&&◌, List, refl, sym, ◌∙◌}
use Rattle.text_scan.specs.declared.token.Token.{Token}
use Rattle.text_scan.specs.declared.limits.Limits.{Limits}
use Rattle.grammar.specs.Rule.{none}
use Rattle.grammar.specs.Reading.{nullable, short, begins, IsSimple}
use Rattle.liberty_tokens.specs.declared.look.Look.{Look}
use Rattle.liberty_tokens.specs.declared.look.Look.TheVariants.{Word, Str, OpenParen, CloseParen, OpenBrace, Semicolon, Colon, Comma, LineEnd}
use Rattle.liberty_tokens.specs.Looks.{look_of, text, is_word, is_arg, is_value, is_open_paren, is_open_brace, is_close_brace, is_semicolon, is_colon, is_comma, is_line, is_end}
use Rattle.liberty_tokens.specs.Words.{is_include}
use Rattle.liberty_statements.specs.Actions.{add_value}
use Rattle.liberty_statements.specs.Grammar.{LibertyRule, act, arg, more, mores, args, values, value_end, value, group_or_none, call_end, tail, statement, body, braces, finish, ending, last_brace, library_braces, title_end, title_name, title, file}

arg_no_comma : (l : Look) → is_arg l ≡ true → (is_comma l || false) ≡ false
arg_no_comma Word e = refl
arg_no_comma Str e = refl
arg_no_comma _ e = absurd cc

value_no_end : (l : Look) → is_value l ≡ true → ((is_semicolon l || (is_line l || is_close_brace l)) || false) ≡ false
value_no_end Word e = refl
value_no_end Str e = refl
value_no_end OpenParen e = refl
value_no_end CloseParen e = refl
value_no_end Comma e = refl
value_no_end _ e = absurd cc

semicolon_no_line : (l : Look) → is_semicolon l ≡ true → ((is_line l || is_close_brace l) || false) ≡ false
semicolon_no_line Semicolon e = refl
semicolon_no_line _ e = absurd cc

line_no_brace : (l : Look) → is_line l ≡ true → (is_close_brace l || false) ≡ false
line_no_brace LineEnd e = refl
line_no_brace _ e = absurd cc

colon_no_paren : (l : Look) → is_colon l ≡ true → (is_open_paren l || false) ≡ false
colon_no_paren Colon e = refl
colon_no_paren _ e = absurd cc

semicolon_no_word : (l : Look) → is_semicolon l ≡ true → (is_word l || false) ≡ false
semicolon_no_word Semicolon e = refl
semicolon_no_word _ e = absurd cc

semicolon_no_end : (l : Look) → is_semicolon l ≡ true → (is_end l || false) ≡ false
semicolon_no_end Semicolon e = refl
semicolon_no_end _ e = absurd cc

module _ (source : List ℕ) (limits : Limits) where
  -- no token that looks so is in next
  abbrev pub Not : Look → (Token → Bool) → Type 0
  Not l next = (t : Token) → look_of source t ≡ l → next t ≡ false

  by : (p : Look → Bool) (next : Token → Bool) → ((l : Look) → p l ≡ true → Not l next) → (t : Token) → p (look_of source t) ≡ true → next t ≡ false
  by p next h t e = h (look_of source t) e t refl

  pub more_simple : (next : Token → Bool) → IsSimple (more source) next
  unfolding more arg IsSimple
  more_simple next = (refl, (λ t e. arg_no_comma (look_of source t) e), (λ t e. tt), (λ t e u g. tt))

  args_simple : (next : Token → Bool) → Not Word next → Not Str next → Not Comma next → IsSimple (args source) next
  unfolding args mores more arg IsSimple
  args_simple next word str comma = (refl, by (λ l. is_arg l || false) next first, ((λ t e. tt), (refl, refl, by (λ l. is_arg l || is_comma l) next further, more_simple (λ t. begins (more source) t || next t))), tt)
    where
      first : (l : Look) → (is_arg l || false) ≡ true → Not l next
      first Word e = word
      first Str e = str
      first _ e = absurd cc

      further : (l : Look) → (is_arg l || is_comma l) ≡ true → Not l next
      further Word e = word
      further Str e = str
      further Comma e = comma
      further _ e = absurd cc

  pub one_simple : (next : Token → Bool) → IsSimple (act source is_value (add_value source limits) none) next
  unfolding IsSimple
  one_simple next t e = tt

  value_simple : (next : Token → Bool) → IsSimple (value source limits) next
  unfolding value values value_end IsSimple
  value_simple next = (
    (refl, refl, (λ t e. value_no_end (look_of source t) e), (λ t e. tt)),
    (refl, (λ t e. semicolon_no_line (look_of source t) e), (λ t e. tt), (refl, (λ t e. line_no_brace (look_of source t) e), (λ t e. tt), tt)),
  )

  -- braces, whose rule begins with the open brace
  pub record Braces (rule : LibertyRule) : Type 0 where
    pub full : nullable rule ≡ false
    pub some : short rule ≡ false
    pub first : (t : Token) → begins rule t ≡ is_open_brace (look_of source t)
    pub simple : (next : Token → Bool) → IsSimple rule next

  group_simple : (rule : LibertyRule) → Braces rule → (next : Token → Bool) → Not OpenBrace next → (must : Bool) → IsSimple (group_or_none must rule) next
  unfolding IsSimple
  group_simple rule b next brace true = b.simple next
  group_simple rule b next brace false = (b.full, (λ t e. by is_open_brace next opens t (sym (b.first t) ∙ e)), b.simple next, tt)
    where
      opens : (l : Look) → is_open_brace l ≡ true → Not l next
      opens OpenBrace e = brace
      opens _ e = absurd cc

  call_end_simple : (rule : LibertyRule) → Braces rule → (w : Token) (next : Token → Bool) → Not OpenBrace next → IsSimple (call_end source rule w) next
  unfolding call_end IsSimple
  call_end_simple rule b w next brace t e = group_simple rule b next brace (is_include (text source w))

  tail_simple : (rule : LibertyRule) → Braces rule → (w : Token) (next : Token → Bool) → Not OpenBrace next → IsSimple (tail source limits rule w) next
  unfolding tail call_end IsSimple
  tail_simple rule b w next brace = (
    refl,
    (λ t e. colon_no_paren (look_of source t) e),
    (λ t e. value_simple next),
    (λ t e. (
      args_simple (λ u. begins (call_end source rule w) u || (nullable (call_end source rule w) && next u)) (λ u g. rw g refl) (λ u g. rw g refl) (λ u g. rw g refl),
      call_end_simple rule b w next brace,
    )),
  )

  pub statement_simple : (rule : LibertyRule) → Braces rule → (next : Token → Bool) → Not OpenBrace next → IsSimple (statement source limits rule) next
  unfolding statement tail IsSimple
  statement_simple rule b next brace = (refl, (λ t e. semicolon_no_word (look_of source t) e), (λ t e. tt), (λ w e. tail_simple rule b w next brace))

  body_simple : (rule : LibertyRule) → Braces rule → (next : Token → Bool) → Not OpenBrace next → Not Word next → Not Semicolon next → IsSimple (body source limits rule) next
  unfolding body statement tail IsSimple
  body_simple rule b next brace word semicolon = (refl, refl, by (λ l. is_semicolon l || is_word l) next first, statement_simple rule b (λ t. begins (statement source limits rule) t || next t) (λ t e. rw e (brace t e)))
    where
      first : (l : Look) → (is_semicolon l || is_word l) ≡ true → Not l next
      first Semicolon e = semicolon
      first Word e = word
      first _ e = absurd cc

  pub braces_are : (n : ℕ) → Braces (braces source limits n)
  unfolding braces IsSimple
  braces_are zero = record { full = refl; some = refl; first = λ t. refl; simple = λ next t e. tt }
  braces_are (suc n) = record {
    full = refl;
    some = refl;
    first = λ t. refl;
    simple = λ next t e. (body_simple (braces source limits n) (braces_are n) _ (λ u g. rw g refl) (λ u g. rw g refl) (λ u g. rw g refl), (λ u g. tt));
  }

  ending_simple : IsSimple (ending source) (λ t. false)
  unfolding ending finish IsSimple
  ending_simple = (refl, (λ t e. semicolon_no_end (look_of source t) e), (λ t e u g. tt), (λ t e. tt))

  library_braces_simple : (n : ℕ) → IsSimple (library_braces source limits n) (λ t. false)
  unfolding library_braces last_brace IsSimple
  library_braces_simple zero = λ t e. tt
  library_braces_simple (suc n) = λ t e. (body_simple (braces source limits n) (braces_are n) _ (λ u g. rw g refl) (λ u g. rw g refl) (λ u g. rw g refl), (λ u g. ending_simple))

  pub file_simple : (n : ℕ) → IsSimple (file source limits n) (λ t. false)
  unfolding file title title_name title_end IsSimple
  file_simple n = λ t e u g v h w i. library_braces_simple n
