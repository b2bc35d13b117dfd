-- What the reader tells is what the grammar says of the whole text.
use Rattle.std.proofs.Common.{◌≡◌, ℕ, ◌+◌, ◌<◌, ◌^◌, Bool, true, false, List, [], ◌∷◌, length, Result, Ok, Err, refl, sym, ap, subst, ◌∙◌, arith}
use Rattle.text_scan.specs.declared.token.Token.{Token}
use Rattle.text_scan.specs.declared.token.Kind.{Kind}
use Rattle.text_scan.specs.declared.token.Kind.TheVariants as kinds
use Rattle.text_scan.specs.declared.token.Style.TheVariants as styles
use Rattle.text_scan.specs.declared.limits.Limits.{Limits}
use Rattle.text_scan.specs.declared.refusal.FileRefusal.{FileRefusal}
use Rattle.text_scan.specs.declared.refusal.FileRefusal.TheVariants as refusals
use Rattle.text_scan.specs.Tokens.{tokens_of}
use Rattle.text_scan.specs.Left.{is_end, followed}
use Rattle.grammar.specs.Answers.{read_all}
use Rattle.liberty_statements.specs.declared.halt.Halt.{Halt}
use Rattle.liberty_statements.specs.declared.halt.Halt.TheVariants as halts
use Rattle.liberty_tokens.specs.declared.look.Look.TheVariants as looks
use Rattle.liberty_statements.specs.declared.machine.Phase.{Phase}
use Rattle.liberty_statements.specs.declared.machine.Phase.TheVariants as phases
use Rattle.liberty_statements.specs.declared.machine.Machine.{Machine}
use Rattle.liberty_statements.specs.declared.statements.Statements.{Statements}
use Rattle.liberty_tokens.specs.Looks.{look_of, text, shows}
use Rattle.liberty_tokens.specs.Words.{is_include}
use Rattle.liberty_statements.specs.Steps.{step, taken, stopped, unless_included, is_in_value}
use Rattle.liberty_statements.specs.Bounds.{IsBounded}
use Rattle.liberty_statements.specs.Does.{Leads, beginning, nothing}
use Rattle.liberty_statements.specs.ToCome.{Answer, IsPlaced}
use Rattle.liberty_statements.specs.Answer.{library_file, file_tokens, refused, told, halted}
use Rattle.file_rules.specs.Refusals.{at_token}
use Rattle.file_rules.specs.Told.{Agrees, Tells}
use Rattle.liberty_statements.proofs.Takes.{reads_left, leads_to, take_ok, take_placed}

module _ (source : List ℕ) (limits : Limits) where
  pub start_ok : (ts : List Token) → tokens_of styles.Liberty source ≡ ts → reads_left source limits (beginning limits.nesting) ts ≡ read_all (library_file source limits) nothing (file_tokens source)
  unfolding library_file file_tokens
  start_ok ts e = ap (λ us. reads_left source limits (beginning limits.nesting) us) (sym e)

  pub turn_ok : (m n : Machine) (t : Token) (ts us : List Token) → is_end t.kind ≡ false → IsPlaced m.phase m.depth → ts ≡ us → taken source limits t m ≡ Ok n
      → reads_left source limits m (followed t ts) ≡ reads_left source limits n us
  unfolding followed
  turn_ok m n t ts us e d f g = rw e (take_ok source limits m t ts d ∙ ap (λ o. leads_to source limits m o t ts) g ∙ ap (reads_left source limits n) f)

  -- the first token is taken first, whether it is the end or not
  first_ok : (b : Bool) (m : Machine) (t : Token) (ts : List Token) → is_end t.kind ≡ b → IsPlaced m.phase m.depth
      → (us : List Token) × (reads_left source limits m (followed t ts) ≡ leads_to source limits m (taken source limits t m) t us)
  unfolding followed
  first_ok true m t ts e d = ([], rw e (take_ok source limits m t [] d))
  first_ok false m t ts e d = (ts, rw e (take_ok source limits m t ts d))

  tells : {X : Type 0} (f : Statements → X) (r q : FileRefusal) (a : Answer) → Tells r q → told source limits f a ≡ Err q → Agrees (Err r) (told source limits f a)
  tells f refusals.NoMemory q a h e = tt
  tells f (refusals.Syntax line column) q a h e = e ∙ ap Err (sym h)
  tells f (refusals.TooMany kind number) q a h e = e ∙ ap Err (sym h)
  tells f (refusals.DoubleName name line) q a h e = e ∙ ap Err (sym h)

  no_memory : {X : Type 0} (r : FileRefusal) (y : Result X FileRefusal) → Tells r refusals.NoMemory → Agrees (Err r) y
  no_memory refusals.NoMemory y h = tt
  no_memory (refusals.Syntax line column) y h = absurd cc
  no_memory (refusals.TooMany kind number) y h = absurd cc
  no_memory (refusals.DoubleName name line) y h = absurd cc

  pub halts_ok : {X : Type 0} (U : Type 0) (f : Statements → X) (h : Halt) (r : FileRefusal) (m n : Machine) (t : Token) (ts : List Token) (a : Answer) → IsPlaced m.phase m.depth
      → Leads {U = U} (Err h) n (taken source limits t m) → Tells r (halted source limits h t) → reads_left source limits m (followed t ts) ≡ a → Agrees (Err r) (told source limits f a)
  halts_ok U f halts.NoMemory r m n t ts a d l k e = no_memory r (told source limits f a) k
  halts_ok U f halts.Syntax r m n t ts a d l k e =
      let first = first_ok (is_end t.kind) m t ts refl d in
      tells f r (at_token t) a k (ap (told source limits f) (sym e ∙ first.1 ∙ ap (λ o. leads_to source limits m o t first.0) l))
  halts_ok U f (halts.Refused reason) r m n t ts a d l k e =
      let first = first_ok (is_end t.kind) m t ts refl d in
      tells f r (refused source limits reason) a k (ap (told source limits f) (sym e ∙ first.1 ∙ ap (λ o. leads_to source limits m o t first.0) l))

  -- the end is taken after the whole file alone
  included_file : (g : Bool) (n : Machine) → unless_included g stopped ≡ Ok n → n.phase ≡ phases.File
  included_file true n e = absurd cc
  included_file false n e = absurd cc

  ended_file : (p : Phase) (t : Token) (m n : Machine) → step source limits t looks.End p m ≡ Ok n → n.phase ≡ phases.File
  unfolding step
  ended_file phases.Library t m n e = let g : n ≡ record m { phase = phases.File } = cc in ap (λ z. z.phase) g
  ended_file phases.Semicolon t m n e = let g : n ≡ record m { phase = phases.File } = cc in ap (λ z. z.phase) g
  ended_file phases.Closed t m n e = included_file (is_include (text source m.statements.word)) n e
  ended_file _ t m n e = absurd cc

  end_looks : (t : Token) → is_end t.kind ≡ true → look_of source t ≡ looks.End
  unfolding look_of
  end_looks t e = let k : t.kind ≡ kinds.End = go t.kind e in rw k refl
    where
      go : (k : Kind) → is_end k ≡ true → k ≡ kinds.End
      go kinds.End e = refl
      go kinds.Word e = absurd cc
      go kinds.Str e = absurd cc
      go kinds.Sign e = absurd cc
      go kinds.Unfinished e = absurd cc
      go kinds.LineEnd e = absurd cc

  shows_end : (v : Bool) → shows v looks.End ≡ true
  shows_end true = refl
  shows_end false = refl

  file_phase : (m n : Machine) (t : Token) → is_end t.kind ≡ true → taken source limits t m ≡ Ok n → n.phase ≡ phases.File
  unfolding taken
  file_phase m n t e g = ended_file m.phase t m n (rw (end_looks t e, shows_end (is_in_value m.phase)) at g)

  pub end_ok : {X : Type 0} (f : Statements → X) (m n : Machine) (t : Token) (ts : List Token) (a : Answer) → is_end t.kind ≡ true → IsPlaced m.phase m.depth → taken source limits t m ≡ Ok n
      → reads_left source limits m (followed t ts) ≡ a → told source limits f a ≡ Ok (f n.statements)
  unfolding followed
  end_ok f m n t ts a e d g h =
      let file : n.phase ≡ phases.File = file_phase m n t e g in
      let left : reads_left source limits m (t ∷ []) ≡ reads_left source limits n [] = take_ok source limits m t [] d ∙ ap (λ o. leads_to source limits m o t []) g in
      let whole : reads_left source limits n [] ≡ Ok n.statements = rw file refl in
      let all : reads_left source limits m (t ∷ []) ≡ a = rw e at h in
      ap (told source limits f) (sym all ∙ left ∙ whole)

  -- what holds between two tokens
  pub record Holds (m : Machine) (ts : List Token) : Type 0 where
    pub placed : IsPlaced m.phase m.depth
    pub bounded : IsBounded m
    pub so_far : reads_left source limits m ts ≡ read_all (library_file source limits) nothing (file_tokens source)

  at_start : (ts : List Token) → limits.nesting + 1 < 2 ^ 32 → tokens_of styles.Liberty source ≡ ts → Holds (beginning limits.nesting) ts
  at_start ts small e = record { placed = refl; bounded = record { passed = omega arith; small = omega arith }; so_far = start_ok ts e }

  pub begins : (m : Machine) (ts : List Token) → limits.nesting + 1 < 2 ^ 32 → m ≡ beginning limits.nesting → tokens_of styles.Liberty source ≡ ts → Holds m ts
  begins m ts small e f = let P : Machine → Type 0 = λ z. Holds z ts in subst P (sym e) (at_start ts small f)

  pub goes_on : (m n : Machine) (t : Token) (ts us : List Token) → is_end t.kind ≡ false → Holds m (followed t ts) → IsBounded n → taken source limits t m ≡ Ok n → ts ≡ us → Holds n us
  goes_on m n t ts us e h b g f = record { placed = take_placed source limits m n t h.placed g; bounded = b; so_far = sym (turn_ok m n t ts us e h.placed f g) ∙ h.so_far }

  pub smaller : (t : Token) (ts us : List Token) → is_end t.kind ≡ false → ts ≡ us → length us < length (followed t ts)
  unfolding followed
  smaller t ts us e f = rw (e, f) (omega arith)

  pub halts_so : {X : Type 0} (U : Type 0) (f : Statements → X) (h : Halt) (r : FileRefusal) (m n : Machine) (t : Token) (ts : List Token) → Holds m (followed t ts)
      → Leads {U = U} (Err h) n (taken source limits t m) → Tells r (halted source limits h t) → Agrees (Err r) (told source limits f (read_all (library_file source limits) nothing (file_tokens source)))
  halts_so U f h r m n t ts k l g = halts_ok U f h r m n t ts _ k.placed l g k.so_far

  pub ends_so : {X : Type 0} (f : Statements → X) (m n : Machine) (t : Token) (ts : List Token) → is_end t.kind ≡ true → Holds m (followed t ts) → taken source limits t m ≡ Ok n
      → told source limits f (read_all (library_file source limits) nothing (file_tokens source)) ≡ Ok (f n.statements)
  ends_so f m n t ts e k g = end_ok f m n t ts _ e k.placed g k.so_far
