-- One turn leads to what the grammar says of the file.
use Rattle.std.proofs.Common.{◌≡◌, ◌<◌, ◌≤◌, ◌+◌, ℕ, zero, suc, Bool, true, false, ◌&&◌, List, [], ◌∷◌, ◌++◌, length, Result, Ok, Err, refl, sym, ap, subst, ◌∙◌, arith}
use Rattle.std.proofs.Common.{length-append}
use Rattle.text_scan.specs.declared.limits.Limits.{Limits}
use Rattle.text_scan.specs.declared.refusal.FileRefusal.{FileRefusal}
use Rattle.text_scan.specs.declared.refusal.FileRefusal.TheVariants as told
use Rattle.text_scan.specs.declared.token.Token.{Token}
use Rattle.file_rules.specs.Refusals.{at_token}
use Rattle.file_rules.specs.Told.{Tells as IsTold}
use Rattle.grammar.specs.Rule.{Rule, before}
use Rattle.grammar.specs.Reading.{Stop, syntax, refusal, short, starts, read, IsSimple}
use Rattle.grammar.proofs.Tells.{Tells, tells}
use Rattle.lef_reader.specs.declared.halt.Halt.{Halt}
use Rattle.lef_reader.specs.declared.halt.Halt.TheVariants as halts
use Rattle.lef_reader.specs.declared.halt.Refusal.{Refusal}
use Rattle.lef_reader.specs.declared.halt.Refusal.TheVariants as refusals
use Rattle.lef_reader.specs.declared.lef_text.LefText.{LefText}
use Rattle.lef_reader.specs.declared.macro_text.MacroText.{MacroText}
use Rattle.lef_reader.specs.declared.until.Closing.{Closing}
use Rattle.lef_reader.specs.declared.until.Closing.TheVariants as closings
use Rattle.lef_reader.specs.declared.until.Opened.{Opened}
use Rattle.lef_reader.specs.declared.until.Opened.TheVariants as openings
use Rattle.lef_reader.specs.First.{First}
use Rattle.lef_tokens.specs.Looks.{look_of, at, is_end, is_over, is_passed}
use Rattle.lef_reader.specs.Passing.{behind, closes}
use Rattle.lef_reader.specs.MacroActions.{no_macro}
use Rattle.lef_reader.specs.MacroGrammar.{macro_end, macro_body}
use Rattle.lef_reader.specs.OutsideGrammar.{OutsideRule, statement, extension, block, ending, section, title, begun, outside}
use Rattle.lef_reader.specs.File.{FileAnswer, no_lef, Next, Goes, Stops, told_refusal, told_stop, goes_behind, refused_at, refused_at_end, after_macro, Then, AfterOutside}
use Rattle.lef_reader.specs.Steps.{Halts}
use Rattle.lef_reader.specs.Turning.{Leads, LeadsTo, Answers, Told}
use Rattle.text_scan.specs.declared.token.Style.TheVariants.{Lef}
use Rattle.text_scan.specs.Tokens.{tokens_of}
use Rattle.lef_reader.specs.Promise.{IsRead}
use Rattle.lef_reader.proofs.Skipped.{Read}
use Rattle.lef_reader.proofs.OneAnswer.{Some, one_more, one_macro}
use Rattle.lef_reader.proofs.Repeats.{turn_less}
use Rattle.lef_reader.proofs.Simple.{begun_simple, macro_simple}

-- ---- fewer tokens are left

cut : (ts vs us : List Token) → ts ≡ vs ++ us → length us ≤ length ts
cut ts vs us h = let count : length ts ≡ length (vs ++ us) = ap length h in let both : length (vs ++ us) ≡ length vs + length us = length-append vs us in omega arith

syntax_rest : {S : Type 0} (a : Rule Token S Refusal) → ((next : Token → Bool) → IsSimple a next) → (s : S) (ts us : List Token) → read a s ts ≡ Err (syntax us) → length us ≤ length ts
syntax_rest a simple s ts us e = go (subst (λ z. Tells a (λ t. false) s ts z) e (tells a (λ t. false) (simple (λ t. false)) s ts))
  where
    go : Tells a (λ t. false) s ts (Err (syntax us)) → length us ≤ length ts
    go ta = cut ts ta.us us ta.parts

refusal_rest : {S : Type 0} (a : Rule Token S Refusal) → ((next : Token → Bool) → IsSimple a next) → (s : S) (ts us : List Token) (r : Refusal) → read a s ts ≡ Err (refusal r us) → length us ≤ length ts
refusal_rest a simple s ts us r e = go (subst (λ z. Tells a (λ t. false) s ts z) e (tells a (λ t. false) (simple (λ t. false)) s ts))
  where
    go : Tells a (λ t. false) s ts (Err (refusal r us)) → length us ≤ length ts
    go ta = cut ts ta.us us ta.parts

module _ (source : List ℕ) where
  pub behind_less : (c : Closing) (after : Bool) (ts us : List Token) → behind source c after ts ≡ Ok us → length us < length ts
  unfolding behind
  behind_less c after [] us h = absurd cc
  behind_less c after (t ∷ ts) us h = go (is_passed t) (after && closes source c t) refl refl (behind_less c (is_end (look_of source t)) ts us)
    where
      go : (p b : Bool) → is_passed t ≡ p → (after && closes source c t) ≡ b → (behind source c (is_end (look_of source t)) ts ≡ Ok us → length us < length ts) → length us < length (t ∷ ts)
      go true true e f more = let same : ts ≡ us = (let all : behind source c after (t ∷ ts) ≡ Ok ts = rw (e, f) refl in let g = sym all ∙ h in cc) in let count = ap length same in omega arith
      go true false e f more = let all : behind source c after (t ∷ ts) ≡ behind source c (is_end (look_of source t)) ts = rw (e, f) refl in let less = more (sym all ∙ h) in omega arith
      go false b e f more = absurd (let all : behind source c after (t ∷ ts) ≡ Err (t ∷ ts) = rw e refl in let g = sym all ∙ h in cc)

  goes_less : (c : Closing) (after : Bool) (f g : LefText) (ts us : List Token) (o : Result (List Token) (List Token)) → behind source c after ts ≡ o → goes_behind f o ≡ Goes g us → length us < length ts
  goes_less c after f g ts us (Ok vs) e h = let same : vs ≡ us = cc in behind_less c after ts us (e ∙ ap Ok same)
  goes_less c after f g ts us (Err vs) e h = absurd cc

  pub section_less : (c : Closing) (f g : LefText) (ts us : List Token) → goes_behind f (behind source c false ts) ≡ Goes g us → length us < length ts
  section_less c f g ts us h = goes_less c false f g ts us (behind source c false ts) refl h

  refused_less : (name : Token) (f g : LefText) (ts us : List Token) → refused_at source name f ts ≡ Goes g us → length us < length ts
  refused_less name f g [] us h = absurd cc
  refused_less name f g (t ∷ ts) us h = go (is_passed t) refl
    where
      go : (p : Bool) → is_passed t ≡ p → length us < length (t ∷ ts)
      go true e = goes_less (closings.Name name) false _ g (t ∷ ts) us (behind source (closings.Name name) false (t ∷ ts)) refl (rw e at h)
      go false e = absurd (let bad = rw e at h in cc)

  at_end_less : (name : Token) (f g : LefText) (ts us : List Token) → refused_at_end source name f ts ≡ Goes g us → length us < length ts
  at_end_less name f g [] us h = absurd cc
  at_end_less name f g (t ∷ ts) us h = goes_less (closings.Name name) true _ g (t ∷ ts) us (behind source (closings.Name name) true (t ∷ ts)) refl h

  module _ (limits : Limits) where
    body_short : (name : Token) → short (macro_body source limits name) ≡ false
    unfolding macro_body macro_end
    body_short name = refl

    macro_less_by : (name : Token) (f g : LefText) (ts us : List Token) (o : First Token MacroText Refusal) → read (macro_body source limits name) no_macro ts ≡ o → after_macro source limits name f o ≡ Goes g us → length us < length ts
    macro_less_by name f g ts us (Ok x) e h = let same : x.1 ≡ us = cc in let less = turn_less (macro_body source limits name) (macro_simple source limits name) (body_short name) no_macro x.0 ts x.1 e in let count = ap length same in omega arith
    macro_less_by name f g ts us (Err (syntax vs)) e h =
        let less = refused_less name f g vs us h in
        let most = syntax_rest (macro_body source limits name) (macro_simple source limits name) no_macro ts vs e in
        omega arith
    macro_less_by name f g ts us (Err (refusal refusals.OtherEnd vs)) e h =
        let less = at_end_less name f g vs us h in
        let most = refusal_rest (macro_body source limits name) (macro_simple source limits name) no_macro ts vs refusals.OtherEnd e in
        omega arith
    macro_less_by name f g ts us (Err (refusal refusals.TooManyMacros vs)) e h = absurd cc
    macro_less_by name f g ts us (Err (refusal refusals.LongName vs)) e h = absurd cc
    macro_less_by name f g ts us (Err (refusal refusals.DoubleName vs)) e h = absurd cc

    pub macro_less : (name : Token) (f g : LefText) (ts us : List Token) → after_macro source limits name f (read (macro_body source limits name) no_macro ts) ≡ Goes g us → length us < length ts
    macro_less name f g ts us h = macro_less_by name f g ts us (read (macro_body source limits name) no_macro ts) refl h

    begun_short : (f : LefText) → short (begun source limits f) ≡ false
    unfolding begun statement extension block ending section title
    begun_short f = refl

    abbrev nothing : OutsideRule
    nothing = before (at source is_over)

    abbrev begun_by : Read Opened → Opened
    begun_by (Ok x) = x.0
    begun_by (Err e) = openings.End

    nothing_begun : (o : Opened) (ts us : List Token) → read nothing openings.End ts ≡ Ok (o, us) → o ≡ openings.End
    nothing_begun o [] us h = absurd cc
    nothing_begun o (t ∷ ts) us h = go (is_over (look_of source t)) refl
      where
        go : (b : Bool) → is_over (look_of source t) ≡ b → o ≡ openings.End
        go true e = sym (ap begun_by (rw e at h))
        go false e = absurd (let g = rw e at h in cc)

    pub outside_less : (f : LefText) (o : Opened) (ts us : List Token) → read (outside source limits f) openings.End ts ≡ Ok (o, us) → (o ≡ openings.End → ⊥) → length us < length ts
    unfolding outside
    outside_less f o ts us h n = go (starts (begun source limits f) ts) refl
      where
        go : (b : Bool) → starts (begun source limits f) ts ≡ b → length us < length ts
        go true e = turn_less (begun source limits f) (begun_simple source limits f) (begun_short f) openings.End o ts us (rw e at h)
        go false e = absurd (n (nothing_begun o ts us (rw e at h)))

    -- ---- what is told

    abbrev SomeHere : LefText → List Token → FileAnswer → Type 0
    SomeHere f ts r = Some source limits f ts r

    answers_is : (f : LefText) (ts : List Token) (e : FileRefusal) → SomeHere f ts (Err e) → Answers source limits f ts e
    answers_is f ts told.NoMemory h = tt
    answers_is f ts (told.Syntax line column) h = h
    answers_is f ts (told.TooMany kind number) h = h
    answers_is f ts (told.DoubleName name line) h = h

    answers_told : (f : LefText) (ts : List Token) (e x : FileRefusal) → IsTold e x → SomeHere f ts (Err x) → Answers source limits f ts e
    answers_told f ts told.NoMemory x t h = tt
    answers_told f ts (told.Syntax line column) x t h = subst (λ z. SomeHere f ts (Err z)) (sym t) h
    answers_told f ts (told.TooMany kind number) x t h = subst (λ z. SomeHere f ts (Err z)) (sym t) h
    answers_told f ts (told.DoubleName name line) x t h = subst (λ z. SomeHere f ts (Err z)) (sym t) h

    told_same : (e : Refusal) (t : Token) (ts : List Token) → told_refusal source limits e (t ∷ []) ≡ told_refusal source limits e (t ∷ ts)
    told_same refusals.TooManyMacros t ts = refl
    told_same refusals.LongName t ts = refl
    told_same refusals.DoubleName t ts = refl
    told_same refusals.OtherEnd t ts = refl

    stopped : (f : LefText) (ts : List Token) (o : Stop Token Refusal) → read (outside source limits f) openings.End ts ≡ Err o → SomeHere f ts (Err (told_stop source limits o))
    stopped f ts o h = one_more source limits f ts (Err (told_stop source limits o)) (subst (λ z. AfterOutside source limits (SomeHere) f z (Err (told_stop source limits o))) (sym h) refl)

    pub halted : (h : Halt) (e : FileRefusal) (f : LefText) (t : Token) (ts us : List Token) → Told source limits h t e → Halts h (read (outside source limits f) openings.End ts) (t ∷ us) → Answers source limits f ts e
    halted halts.NoMemory e f t ts us k g = subst (λ z. Answers source limits f ts z) (sym k) tt
    halted halts.Syntax e f t ts us k g = subst (λ z. Answers source limits f ts z) (sym k) (answers_is f ts (at_token t) (stopped f ts (syntax (t ∷ us)) g))
    halted (halts.Refused r) e f t ts us k g =
        answers_told f ts e (told_refusal source limits r (t ∷ [])) k (subst (λ z. SomeHere f ts (Err z)) (sym (told_same r t us)) (stopped f ts (refusal r (t ∷ us)) g))

    -- ---- what has begun

    pub ended : (f : LefText) (ts us : List Token) → read (outside source limits f) openings.End ts ≡ Ok (openings.End, us) → SomeHere f ts (Ok f)
    ended f ts us h = one_more source limits f ts (Ok f) (subst (λ z. AfterOutside source limits (SomeHere) f z (Ok f)) (sym h) refl)

    pub passed_on : (f : LefText) (ts us : List Token) → read (outside source limits f) openings.End ts ≡ Ok (openings.Nothing, us) → LeadsTo source limits f ts f us
    passed_on f ts us h = record {
      on = λ r g. one_more source limits f ts r (subst (λ z. AfterOutside source limits (SomeHere) f z r) (sym h) g);
      less = outside_less f openings.Nothing ts us h (λ e. absurd cc);
    }

    -- a file from what has begun
    abbrev From : LefText → List Token → Next → Type 0
    From f ts x = (r : FileAnswer) → Then source limits (SomeHere) x r → SomeHere f ts r

    from_section : (f : LefText) (c : Closing) (ts us : List Token) → read (outside source limits f) openings.End ts ≡ Ok (openings.Section c, us) → From f ts (goes_behind f (behind source c false us))
    from_section f c ts us h r g = one_more source limits f ts r (subst (λ z. AfterOutside source limits (SomeHere) f z r) (sym h) g)

    from_macro : (f : LefText) (name : Token) (ts us : List Token) → read (outside source limits f) openings.End ts ≡ Ok (openings.Macro name, us) → From f ts (after_macro source limits name f (read (macro_body source limits name) no_macro us))
    from_macro f name ts us h r g = one_more source limits f ts r (subst (λ z. AfterOutside source limits (SomeHere) f z r) (sym h) (one_macro source limits name f us r g))

    goes_on : (f g : LefText) (ts vs : List Token) (x : Next) → From f ts x → x ≡ Goes g vs → length vs < length ts → LeadsTo source limits f ts g vs
    goes_on f g ts vs x from e less = record { on = λ r h. from r (subst (λ z. Then source limits (SomeHere) z r) (sym e) h); less = less }

    is_told : (e : FileRefusal) (f g : LefText) (ts vs : List Token) (x : Next) → From f ts x → Leads {U = Unit {0}} (Err e) x g vs → Answers source limits f ts e
    is_told told.NoMemory f g ts vs x from h = tt
    is_told (told.Syntax line column) f g ts vs x from h = from (Err (told.Syntax line column)) (subst (λ z. Then source limits (SomeHere) z (Err (told.Syntax line column))) (sym h) refl)
    is_told (told.TooMany kind number) f g ts vs x from h = from (Err (told.TooMany kind number)) (subst (λ z. Then source limits (SomeHere) z (Err (told.TooMany kind number))) (sym h) refl)
    is_told (told.DoubleName name line) f g ts vs x from h = from (Err (told.DoubleName name line)) (subst (λ z. Then source limits (SomeHere) z (Err (told.DoubleName name line))) (sym h) refl)

    pub section_on : (f : LefText) (c : Closing) (ts us vs : List Token) → read (outside source limits f) openings.End ts ≡ Ok (openings.Section c, us) → goes_behind f (behind source c false us) ≡ Goes f vs → LeadsTo source limits f ts f vs
    section_on f c ts us vs h g =
        let first = outside_less f (openings.Section c) ts us h (λ e. absurd cc) in
        let more = section_less c f f us vs g in
        goes_on f f ts vs (goes_behind f (behind source c false us)) (from_section f c ts us h) g (omega arith)

    pub section_told : (e : FileRefusal) (f : LefText) (c : Closing) (ts us vs : List Token) → read (outside source limits f) openings.End ts ≡ Ok (openings.Section c, us) → Leads {U = Unit {0}} (Err e) (goes_behind f (behind source c false us)) f vs → Answers source limits f ts e
    section_told e f c ts us vs h g = is_told e f f ts vs (goes_behind f (behind source c false us)) (from_section f c ts us h) g

    pub macro_on : (f g : LefText) (name : Token) (ts us vs : List Token) → read (outside source limits f) openings.End ts ≡ Ok (openings.Macro name, us) → after_macro source limits name f (read (macro_body source limits name) no_macro us) ≡ Goes g vs → LeadsTo source limits f ts g vs
    macro_on f g name ts us vs h k =
        let first = outside_less f (openings.Macro name) ts us h (λ e. absurd cc) in
        let more = macro_less name f g us vs k in
        goes_on f g ts vs (after_macro source limits name f (read (macro_body source limits name) no_macro us)) (from_macro f name ts us h) k (omega arith)

    pub macro_told : (e : FileRefusal) (f g : LefText) (name : Token) (ts us vs : List Token) → read (outside source limits f) openings.End ts ≡ Ok (openings.Macro name, us) → Leads {U = Unit {0}} (Err e) (after_macro source limits name f (read (macro_body source limits name) no_macro us)) g vs → Answers source limits f ts e
    macro_told e f g name ts us vs h k = is_told e f g ts vs (after_macro source limits name f (read (macro_body source limits name) no_macro us)) (from_macro f name ts us h) k

    -- ---- each text has an answer

    from_next : (n : ℕ) (f : LefText) (ts : List Token) (x : Next) → length ts < suc n → From f ts x → ((g : LefText) (us : List Token) → x ≡ Goes g us → length us < length ts)
        → ((g : LefText) (us : List Token) → length us < n → (r : FileAnswer) × SomeHere g us r) → (r : FileAnswer) × SomeHere f ts r
    from_next n f ts (Goes g us) few from less more = let l = less g us refl in let a = more g us (omega arith) in (a.0, from a.0 a.1)
    from_next n f ts (Stops e) few from less more = (Err e, from (Err e) refl)

    has_answer : (n : ℕ) (f : LefText) (ts : List Token) → length ts < n → (r : FileAnswer) × SomeHere f ts r
    has_answer zero f ts h = absurd (omega arith)
    has_answer (suc n) f ts h = go (read (outside source limits f) openings.End ts) refl (has_answer n)
      where
        go : (o : First Token Opened Refusal) → read (outside source limits f) openings.End ts ≡ o → ((g : LefText) (us : List Token) → length us < n → (r : FileAnswer) × SomeHere g us r) → (r : FileAnswer) × SomeHere f ts r
        go (Err o) e more = (Err (told_stop source limits o), stopped f ts o e)
        go (Ok (openings.End, us)) e more = (Ok f, ended f ts us e)
        go (Ok (openings.Nothing, us)) e more = let l = passed_on f ts us e in let less = l.less in let a = more f us (omega arith) in (a.0, l.on a.0 a.1)
        go (Ok (openings.Section c, us)) e more =
            from_next n f ts (goes_behind f (behind source c false us)) h (from_section f c ts us e)
            (λ g vs k. let first = outside_less f (openings.Section c) ts us e (λ z. absurd cc) in let rest_less = section_less c f g us vs k in omega arith) more
        go (Ok (openings.Macro name, us)) e more =
            from_next n f ts (after_macro source limits name f (read (macro_body source limits name) no_macro us)) h (from_macro f name ts us e)
            (λ g vs k. let l = macro_on f g name ts us vs e k in l.less) more

    no_memory : IsRead source limits (Err told.NoMemory)
    no_memory = let a = has_answer (suc (length (tokens_of Lef source))) no_lef (tokens_of Lef source) (omega arith) in record { answer = a.0; is = a.1; agrees = tt }

    pub refused_file : (e : FileRefusal) (f : LefText) (ts : List Token) → ((r : FileAnswer) → SomeHere f ts r → SomeHere no_lef (tokens_of Lef source) r) → Answers source limits f ts e → IsRead source limits (Err e)
    refused_file told.NoMemory f ts on h = no_memory
    refused_file (told.Syntax line column) f ts on h = record { answer = Err (told.Syntax line column); is = on (Err (told.Syntax line column)) h; agrees = refl }
    refused_file (told.TooMany kind number) f ts on h = record { answer = Err (told.TooMany kind number); is = on (Err (told.TooMany kind number)) h; agrees = refl }
    refused_file (told.DoubleName name line) f ts on h = record { answer = Err (told.DoubleName name line); is = on (Err (told.DoubleName name line)) h; agrees = refl }
