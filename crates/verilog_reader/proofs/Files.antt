-- A file has one answer, and one turn more makes a file.
use Rattle.std.proofs.Common.{◌≡◌, ℕ, zero, suc, List, Ok, Err, sym, subst, ◌∙◌}
use Rattle.text_scan.specs.declared.limits.Limits.{Limits}
use Rattle.grammar.specs.Reading.{read}
use Rattle.verilog_directives.specs.declared.left.Left.{Left}
use Rattle.verilog_modules.specs.declared.module_text.ModuleText.{ModuleText}
use Rattle.verilog_primitives.specs.declared.udp_text.PrimitiveText.{PrimitiveText}
use Rattle.verilog_modules.specs.ModuleActions.{no_module}
use Rattle.verilog_modules.specs.ModuleGrammar.{module_body}
use Rattle.verilog_primitives.specs.UdpActions.{no_udp}
use Rattle.verilog_primitives.specs.UdpGrammar.{udp_body}
use Rattle.verilog_modules.proofs.ModuleSimple.{module_simple}
use Rattle.verilog_primitives.proofs.UdpSimple.{udp_simple}
use Rattle.verilog_reader.specs.declared.file_text.FileText.{FileText}
use Rattle.verilog_reader.specs.declared.file_text.Opened.{Opened}
use Rattle.verilog_reader.specs.declared.file_text.Opened.TheVariants as openings
use Rattle.verilog_reader.specs.FileGrammar.{outside, part_rest}
use Rattle.verilog_reader.specs.File.{First, FileAnswer, Next, Goes, Skips, Stops, after_module, after_udp, AfterRest, Then, Opens, AfterOutside, IsFile}
use Rattle.verilog_reader.proofs.FirstAnswers.{first_answers, first_is_read}
use Rattle.verilog_reader.proofs.OutsideFollows.{outside_simple, rest_simple}

module _ (source : List ℕ) (limits : Limits) (n : ℕ) where
  abbrev pub Files : ℕ → FileText → List Left → FileAnswer → Type 0
  Files k = IsFile source limits n k

  -- a file of any number of parts
  abbrev pub Some : FileText → List Left → FileAnswer → Type 0
  Some f ts r = (k : ℕ) × IsFile source limits n k f ts r

  -- ---- one turn more

  lift_rest : (o : First FileText) (r : FileAnswer) → AfterRest source limits n Some o r → (k : ℕ) × AfterRest source limits n (Files k) o r
  lift_rest (Ok x) r h = h
  lift_rest (Err stop) r h = (0, h)

  lift_next : (x : Next) (r : FileAnswer) → Then source limits n Some x r → (k : ℕ) × Then source limits n (Files k) x r
  lift_next (Goes f ts) r h = h
  lift_next (Skips f ts) r h = let w = lift_rest h.0 r h.2 in (w.0, (h.0, h.1, w.1))
  lift_next (Stops e) r h = (0, h)

  lift_opens : (o : Opened) (f : FileText) (ts : List Left) (r : FileAnswer) → Opens source limits n Some o f ts r → (k : ℕ) × Opens source limits n (Files k) o f ts r
  lift_opens openings.Line f ts r h = h
  lift_opens openings.Module f ts r h = let w = lift_next (after_module source limits f h.0) r h.2 in (w.0, (h.0, h.1, w.1))
  lift_opens openings.Primitive f ts r h = let w = lift_next (after_udp source limits f h.0) r h.2 in (w.0, (h.0, h.1, w.1))
  lift_opens openings.End f ts r h = (0, h)

  lift_outside : (o : First FileText) (r : FileAnswer) → AfterOutside source limits n Some o r → (k : ℕ) × AfterOutside source limits n (Files k) o r
  lift_outside (Ok x) r h = lift_opens x.0.opened x.0 x.1 r h
  lift_outside (Err stop) r h = (0, h)

  pub one_more : (f : FileText) (ts : List Left) (r : FileAnswer) → AfterOutside source limits n Some (read (outside source limits) f ts) r → Some f ts r
  one_more f ts r h =
      let w = lift_outside (read (outside source limits) f ts) r h in
      (suc w.0, (read (outside source limits) f ts, first_answers (outside source limits) (outside_simple source limits) f ts, w.1))

  -- ---- one answer

  same_first : {S : Type 0} (x y o : First S) → o ≡ x → o ≡ y → x ≡ y
  same_first x y o e f = sym e ∙ f

  one_rest : (k j : ℕ) → ((f : FileText) (ts : List Left) (r q : FileAnswer) → Files k f ts r → Files j f ts q → r ≡ q)
      → (o : First FileText) (r q : FileAnswer) → AfterRest source limits n (Files k) o r → AfterRest source limits n (Files j) o q → r ≡ q
  one_rest k j h (Ok x) r q a b = h x.0 x.1 r q a b
  one_rest k j h (Err stop) r q a b = a ∙ sym b

  one_next : (k j : ℕ) → ((f : FileText) (ts : List Left) (r q : FileAnswer) → Files k f ts r → Files j f ts q → r ≡ q)
      → (x : Next) (r q : FileAnswer) → Then source limits n (Files k) x r → Then source limits n (Files j) x q → r ≡ q
  one_next k j h (Goes f ts) r q a b = h f ts r q a b
  one_next k j h (Skips f ts) r q a b =
      let x = first_is_read (part_rest source limits) (rest_simple source limits) f ts a.0 a.1 in
      let y = first_is_read (part_rest source limits) (rest_simple source limits) f ts b.0 b.1 in
      let P : First FileText → Type 0 = λ o. AfterRest source limits n (Files j) o q in
      one_rest k j h a.0 r q a.2 (subst P (sym y ∙ x) b.2)
  one_next k j h (Stops e) r q a b = a ∙ sym b

  one_opens : (k j : ℕ) → ((f : FileText) (ts : List Left) (r q : FileAnswer) → Files k f ts r → Files j f ts q → r ≡ q)
      → (o : Opened) (f : FileText) (ts : List Left) (r q : FileAnswer) → Opens source limits n (Files k) o f ts r → Opens source limits n (Files j) o f ts q → r ≡ q
  one_opens k j h openings.Line f ts r q a b = h f ts r q a b
  one_opens k j h openings.Module f ts r q a b =
      let x = first_is_read (module_body source limits n) (module_simple source limits n) no_module ts a.0 a.1 in
      let y = first_is_read (module_body source limits n) (module_simple source limits n) no_module ts b.0 b.1 in
      let P : First ModuleText → Type 0 = λ o. Then source limits n (Files j) (after_module source limits f o) q in
      one_next k j h (after_module source limits f a.0) r q a.2 (subst P (sym y ∙ x) b.2)
  one_opens k j h openings.Primitive f ts r q a b =
      let x = first_is_read (udp_body source limits) (udp_simple source limits) no_udp ts a.0 a.1 in
      let y = first_is_read (udp_body source limits) (udp_simple source limits) no_udp ts b.0 b.1 in
      let P : First PrimitiveText → Type 0 = λ o. Then source limits n (Files j) (after_udp source limits f o) q in
      one_next k j h (after_udp source limits f a.0) r q a.2 (subst P (sym y ∙ x) b.2)
  one_opens k j h openings.End f ts r q a b = a ∙ sym b

  one_outside : (k j : ℕ) → ((f : FileText) (ts : List Left) (r q : FileAnswer) → Files k f ts r → Files j f ts q → r ≡ q)
      → (o : First FileText) (r q : FileAnswer) → AfterOutside source limits n (Files k) o r → AfterOutside source limits n (Files j) o q → r ≡ q
  one_outside k j h (Ok x) r q a b = one_opens k j h x.0.opened x.0 x.1 r q a b
  one_outside k j h (Err stop) r q a b = a ∙ sym b

  -- a file has one answer at most
  pub one_answer : (k j : ℕ) (f : FileText) (ts : List Left) (r q : FileAnswer) → Files k f ts r → Files j f ts q → r ≡ q
  one_answer zero j f ts r q a b = absurd a
  one_answer (suc k) zero f ts r q a b = absurd b
  one_answer (suc k) (suc j) f ts r q a b =
      let x = first_is_read (outside source limits) (outside_simple source limits) f ts a.0 a.1 in
      let y = first_is_read (outside source limits) (outside_simple source limits) f ts b.0 b.1 in
      let P : First FileText → Type 0 = λ o. AfterOutside source limits n (Files j) o q in
      one_outside k j (one_answer k j) a.0 r q a.2 (subst P (sym y ∙ x) b.2)
