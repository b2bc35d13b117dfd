-- A file has one answer, and one turn more makes a file.
use Rattle.std.proofs.Common.{◌≡◌, ℕ, zero, suc, false, List, Ok, Err, sym, subst, ◌∙◌}
use Rattle.text_scan.specs.declared.limits.Limits.{Limits}
use Rattle.text_scan.specs.declared.token.Token.{Token}
use Rattle.grammar.specs.Reading.{read}
use Rattle.lef_reader.specs.declared.halt.Refusal.{Refusal}
use Rattle.lef_reader.specs.declared.lef_text.LefText.{LefText}
use Rattle.lef_reader.specs.declared.macro_text.MacroText.{MacroText}
use Rattle.lef_reader.specs.declared.until.Opened.{Opened}
use Rattle.lef_reader.specs.declared.until.Opened.TheVariants as openings
use Rattle.lef_reader.specs.First.{First}
use Rattle.lef_reader.specs.Passing.{behind}
use Rattle.lef_reader.specs.MacroActions.{no_macro}
use Rattle.lef_reader.specs.MacroGrammar.{macro_body}
use Rattle.lef_reader.specs.OutsideGrammar.{outside}
use Rattle.lef_reader.specs.File.{FileAnswer, Next, Goes, Stops, goes_behind, after_macro, Then, Opens, AfterOutside, IsFile}
use Rattle.lef_reader.specs.Turning.{SomeFile}
use Rattle.lef_reader.proofs.FirstAnswers.{first_answers, first_is_read}
use Rattle.lef_reader.proofs.Simple.{macro_simple, outside_simple}

module _ (source : List ℕ) (limits : Limits) where
  abbrev Files : ℕ → LefText → List Token → FileAnswer → Type 0
  Files k = IsFile source limits k

  abbrev pub Some : LefText → List Token → FileAnswer → Type 0
  Some f ts r = SomeFile source limits f ts r

  -- ---- one turn more

  lift_next : (x : Next) (r : FileAnswer) → Then source limits Some x r → (k : ℕ) × Then source limits (Files k) x r
  lift_next (Goes f ts) r h = h
  lift_next (Stops e) r h = (0, h)

  lift_opens : (o : Opened) (f : LefText) (ts : List Token) (r : FileAnswer) → Opens source limits Some o f ts r → (k : ℕ) × Opens source limits (Files k) o f ts r
  lift_opens openings.Nothing f ts r h = h
  lift_opens (openings.Section closing) f ts r h = lift_next (goes_behind f (behind source closing false ts)) r h
  lift_opens (openings.Macro name) f ts r h = let w = lift_next (after_macro source limits name f h.0) r h.2 in (w.0, (h.0, h.1, w.1))
  lift_opens openings.End f ts r h = (0, h)

  lift_outside : (f : LefText) (o : First Token Opened Refusal) (r : FileAnswer) → AfterOutside source limits Some f o r → (k : ℕ) × AfterOutside source limits (Files k) f o r
  lift_outside f (Ok x) r h = lift_opens x.0 f x.1 r h
  lift_outside f (Err stop) r h = (0, h)

  pub one_more : (f : LefText) (ts : List Token) (r : FileAnswer) → AfterOutside source limits Some f (read (outside source limits f) openings.End ts) r → Some f ts r
  one_more f ts r h =
      let w = lift_outside f (read (outside source limits f) openings.End ts) r h in
      (suc w.0, (read (outside source limits f) openings.End ts, first_answers (outside source limits f) (outside_simple source limits f) openings.End ts, w.1))

  -- what comes of a macro that is read
  pub one_macro : (name : Token) (f : LefText) (ts : List Token) (r : FileAnswer) → Then source limits Some (after_macro source limits name f (read (macro_body source limits name) no_macro ts)) r → Opens source limits Some (openings.Macro name) f ts r
  one_macro name f ts r h = (read (macro_body source limits name) no_macro ts, first_answers (macro_body source limits name) (macro_simple source limits name) no_macro ts, h)

  -- ---- one answer

  one_next : (k j : ℕ) → ((f : LefText) (ts : List Token) (r q : FileAnswer) → Files k f ts r → Files j f ts q → r ≡ q)
      → (x : Next) (r q : FileAnswer) → Then source limits (Files k) x r → Then source limits (Files j) x q → r ≡ q
  one_next k j h (Goes f ts) r q a b = h f ts r q a b
  one_next k j h (Stops e) r q a b = a ∙ sym b

  one_opens : (k j : ℕ) → ((f : LefText) (ts : List Token) (r q : FileAnswer) → Files k f ts r → Files j f ts q → r ≡ q)
      → (o : Opened) (f : LefText) (ts : List Token) (r q : FileAnswer) → Opens source limits (Files k) o f ts r → Opens source limits (Files j) o f ts q → r ≡ q
  one_opens k j h openings.Nothing f ts r q a b = h f ts r q a b
  one_opens k j h (openings.Section closing) f ts r q a b = one_next k j h (goes_behind f (behind source closing false ts)) r q a b
  one_opens k j h (openings.Macro name) f ts r q a b =
      let x = first_is_read (macro_body source limits name) (macro_simple source limits name) no_macro ts a.0 a.1 in
      let y = first_is_read (macro_body source limits name) (macro_simple source limits name) no_macro ts b.0 b.1 in
      let P : First Token MacroText Refusal → Type 0 = λ o. Then source limits (Files j) (after_macro source limits name f o) q in
      one_next k j h (after_macro source limits name f a.0) r q a.2 (subst P (sym y ∙ x) b.2)
  one_opens k j h openings.End f ts r q a b = a ∙ sym b

  one_outside : (k j : ℕ) → ((f : LefText) (ts : List Token) (r q : FileAnswer) → Files k f ts r → Files j f ts q → r ≡ q)
      → (f : LefText) (o : First Token Opened Refusal) (r q : FileAnswer) → AfterOutside source limits (Files k) f o r → AfterOutside source limits (Files j) f o q → r ≡ q
  one_outside k j h f (Ok x) r q a b = one_opens k j h x.0 f x.1 r q a b
  one_outside k j h f (Err stop) r q a b = a ∙ sym b

  -- a file has one answer at most
  pub one_answer : (k j : ℕ) (f : LefText) (ts : List Token) (r q : FileAnswer) → Files k f ts r → Files j f ts q → r ≡ q
  one_answer zero j f ts r q a b = absurd a
  one_answer (suc k) zero f ts r q a b = absurd b
  one_answer (suc k) (suc j) f ts r q a b =
      let x = first_is_read (outside source limits f) (outside_simple source limits f) openings.End ts a.0 a.1 in
      let y = first_is_read (outside source limits f) (outside_simple source limits f) openings.End ts b.0 b.1 in
      let P : First Token Opened Refusal → Type 0 = λ o. AfterOutside source limits (Files j) f o q in
      one_outside k j (one_answer k j) f a.0 r q a.2 (subst P (sym y ∙ x) b.2)
