-- The turn of the next token of those to come.
use Rattle.std.proofs.Common.{◌≡◌, ℕ, true, false, List, [], ◌∷◌, length, drop, ◌<◌, arith, refl, sym, ap, ◌∙◌}
use Rattle.text_scan.specs.declared.token.Token.{Token}
use Rattle.text_scan.specs.declared.limits.Limits.{Limits}
use Rattle.text_scan.specs.Left.{is_end, followed as followed_token}
use Rattle.verilog_directives.specs.declared.left.Left.{Left}
use Rattle.verilog_directives.specs.declared.left.Role.TheVariants.{Plain}
use Rattle.verilog_directives.specs.declared.condition.Condition.{Condition}
use Rattle.verilog_directives.specs.Words.{directive_of}
use Rattle.verilog_directives.specs.Signs.{is_wrong, is_mark, word_after}
use Rattle.verilog_directives.specs.Conditions.{is_read}
use Rattle.verilog_directives.specs.Regions.{after_token, after_kept}
use Rattle.verilog_directives.specs.Left.{State, item, end_item, is_passed, is_kept, line_after, after, turn, directive_turn, left_from, is_last, followed}
use Rattle.verilog_directives.specs.Directives.{left_by}
use Rattle.verilog_directives.proofs.Looks.{followed-open}
use Rattle.verilog_directives.proofs.Turns.{followed-last, followed-more}

last_end : (conditions : List Condition) (t : Token) → is_end t.kind ≡ true → is_last (end_item conditions t) ≡ true
last_end [] t e = e
last_end (c ∷ cs) t e = refl

module _ (text : List ℕ) (limits : Limits) (s : State) (t : Token) (ts to : List Token) (next : to ≡ followed_token t ts) where
  -- the end is the last item
  pub ends_here : (items : List Left) → is_end t.kind ≡ true → left_from text limits s 0 to ≡ followed (end_item s.conditions t) items
  unfolding left_from turn followed_token
  ends_here items e =
      let alone : followed_token t ts ≡ t ∷ [] = rw e in
      ap (left_from text limits s 0) (next ∙ alone) ∙ rw e (sym (followed-last (end_item s.conditions t) items (last_end s.conditions t e)))

  -- another token's turn comes before those of the others
  taken_first : is_end t.kind ≡ false → left_from text limits s 0 to ≡ left_by text limits (turn text limits s t ts) ts
  unfolding left_from left_by
  taken_first shut = ap (left_from text limits s 0) (next ∙ followed-open t ts shut)

  shows : (s : State) → is_end t.kind ≡ false → followed (item Plain t) (left_from text limits s 0 ts) ≡ item Plain t ∷ left_from text limits s 0 ts
  shows s shut = followed-more (item Plain t) _ shut

  pub shows_wrong : is_end t.kind ≡ false → is_wrong text t ≡ true → left_from text limits s 0 to ≡ followed (item Plain t) (left_from text limits s 0 ts)
  unfolding turn left_by
  shows_wrong shut wrong = taken_first shut ∙ rw (shut, wrong) (sym (shows s shut))

  pub passes : is_end t.kind ≡ false → is_wrong text t ≡ false → is_passed s.line t ≡ true
      → left_from text limits s 0 to ≡ left_from text limits (record s { line = line_after text s.line t (after 0 t ts) }) 0 ts
  unfolding turn left_by
  passes shut right passed = taken_first shut ∙ rw (shut, right, passed) refl

  pub keeps : is_end t.kind ≡ false → is_wrong text t ≡ false → is_passed s.line t ≡ false → is_kept s.line t ≡ true
      → left_from text limits s 0 to ≡ followed (item Plain t) (left_from text limits (record s { region = after_kept text s.region t }) 0 ts)
  unfolding turn left_by
  keeps shut right here kept = taken_first shut ∙ rw (shut, right, here, kept) (sym (shows _ shut))

  directs : is_end t.kind ≡ false → is_wrong text t ≡ false → is_passed s.line t ≡ false → is_kept s.line t ≡ false → is_mark text t ≡ true
      → left_from text limits s 0 to ≡ left_by text limits (directive_turn text limits s t ts (directive_of (word_after text t (after 0 t ts)))) ts
  unfolding turn
  directs shut right here free mark = taken_first shut ∙ rw (shut, right, here, free, mark) refl

  -- the same, where the token was put back before those to come
  pub directs_back : (back : List Token) (same : List ℕ) → back ≡ t ∷ ts → same ≡ text
      → is_end t.kind ≡ false → is_wrong text t ≡ false → is_passed s.line t ≡ false → is_kept s.line t ≡ false → is_mark text t ≡ true
      → left_from text limits s 0 to ≡ left_by same limits (directive_turn same limits s t (drop 1 back) (directive_of (word_after same t (after 0 t (drop 1 back))))) (drop 1 back)
  directs_back back same put is shut right here free mark = rw (put, is) (directs shut right here free mark)

  pub shows_read : is_end t.kind ≡ false → is_wrong text t ≡ false → is_passed s.line t ≡ false → is_kept s.line t ≡ false → is_mark text t ≡ false → is_read s.conditions ≡ true
      → left_from text limits s 0 to ≡ followed (item Plain t) (left_from text limits (record s { region = after_token text s.region t }) 0 ts)
  unfolding turn left_by
  shows_read shut right here free plain read = taken_first shut ∙ rw (shut, right, here, free, plain, read) (sym (shows _ shut))

  pub passes_unread : is_end t.kind ≡ false → is_wrong text t ≡ false → is_passed s.line t ≡ false → is_kept s.line t ≡ false → is_mark text t ≡ false → is_read s.conditions ≡ false
      → left_from text limits s 0 to ≡ left_from text limits s 0 ts
  unfolding turn left_by
  passes_unread shut right here free plain read = taken_first shut ∙ rw (shut, right, here, free, plain, read) refl

  pub fewer_to_come : is_end t.kind ≡ false → length ts < length to
  fewer_to_come shut = let count : length to ≡ length (t ∷ ts) = ap length (next ∙ followed-open t ts shut) in omega arith

  -- a token that was put back is to come again, and what is left is as before
  pub back_again : (back : List Token) → back ≡ t ∷ ts → is_end t.kind ≡ false → back ≡ to
  back_again back put shut = put ∙ sym (next ∙ followed-open t ts shut)

  pub left_again : (back : List Token) (same : List ℕ) → back ≡ t ∷ ts → same ≡ text → is_end t.kind ≡ false → left_from same limits s 0 back ≡ left_from text limits s 0 to
  left_again back same put is shut = ap (λ z. left_from z limits s 0 back) is ∙ ap (left_from text limits s 0) (back_again back put shut)
