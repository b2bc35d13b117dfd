-- What the status says of the cells.
use Rattle.std.proofs.Common.{◌≡◌, ◌⊎◌, inl, inr, ◌&&◌, ◌==◌, ◌+◌, ℕ, List, [], ◌∷◌, Option, Some, None, Ok, Err, Bool, true, false, if◌then◌else◌, eqb-true, eq-eqb, refl, sym, ◌∙◌, ap, subst, arith, rules}
use Rattle.liberty_source.specs.declared.Library.{Library}
use Rattle.liberty_source.specs.declared.CellPart.{CellPart}
use Rattle.verilog_source.specs.declared.Source.{Source}
use Rattle.cell_compare.specs.declared.comparison.Comparison.{Comparison}
use Rattle.cell_compare.specs.declared.comparison.Comparison.TheVariants.{Refused, Pins, Vectors}
use Rattle.cell_compare.specs.Equal.{SaysEqual}
use Rattle.cell_compare.proofs.OneComparison.{one_comparison}
use Rattle.compare_text.specs.declared.report.Totals.{Totals}
use Rattle.compare_text.specs.Text.{verdict_of, with_verdict, totals_of, AreComparisons}
use Rattle.qual_core.specs.Command.{command_of, name_beside}
use Rattle.qual_core.specs.Files.{IsLibraryRead, IsSourceRead}
use Rattle.qual_core.specs.Outcome.{totals_status, IsCompared, IsSecondReply, verilog_refused, compared, IsFirstReply, liberty_refused, liberty_read, IsCompareReply, IsReplyTo, IsOutcome}
use Rattle.qual_core.specs.Top.{IsDoneOrFaulty, AreBothRead, AreAccepted, AreFoundEqual, AreEqual, IsEqualLibrary, JudgesExactly}
use Rattle.qual_core.specs.declared.command.Command.{Command}
use Rattle.qual_core.specs.declared.command.FileOption.TheVariants.{Liberty, Verilog}
use Rattle.qual_core.specs.declared.reply.Reply.{Reply}
use Rattle.qual_core.specs.declared.reply.Status.TheVariants.{Done, Faulty}
use Rattle.qual_core.proofs.OneOutcome.{library_once, source_once, same_ok, ok_or_err, one_text}
use Rattle.qual_core.proofs.Replying.{outcome_named, compare_name}
use Rattle.cell_compare.proofs.Equal.{equal_part}

-- ---- totals

-- no cell differs, and none is refused
abbrev IsClean : Totals → Type 0
IsClean t = (t.differs ≡ 0) × (t.refused ≡ 0)

clean_rest : (c : Comparison) (t : Totals) → IsClean (with_verdict (verdict_of c) t) → SaysEqual c × IsClean t
clean_rest (Refused r) t h = absurd (let e : t.refused + 1 ≡ 0 = h.1 in omega arith)
clean_rest (Pins found) t h = absurd (let e : t.differs + 1 ≡ 0 = h.0 in omega arith)
clean_rest (Vectors n d None) t h = (tt, h)
clean_rest (Vectors n d (Some f)) t h = absurd (let e : t.differs + 1 ≡ 0 = h.0 in omega arith)

clean_more : (c : Comparison) (t : Totals) → SaysEqual c → IsClean t → IsClean (with_verdict (verdict_of c) t)
clean_more (Refused r) t s h = absurd s
clean_more (Pins found) t s h = absurd s
clean_more (Vectors n d None) t s h = h
clean_more (Vectors n d (Some f)) t s h = absurd s

clean_found : (parts : List CellPart) (source : Source) (comparisons : List Comparison) → AreComparisons parts source comparisons → IsClean (totals_of comparisons) → AreFoundEqual parts source
clean_found [] source [] a h = tt
clean_found [] source (c ∷ comparisons) a h = absurd a
clean_found (p ∷ parts) source [] a h = absurd a
clean_found (p ∷ parts) source (c ∷ comparisons) a h =
    let rest = clean_rest c (totals_of comparisons) h in
    ((c, a.0, rest.0), clean_found parts source comparisons a.1 rest.1)

found_clean : (parts : List CellPart) (source : Source) (comparisons : List Comparison) → AreComparisons parts source comparisons → AreFoundEqual parts source → IsClean (totals_of comparisons)
found_clean [] source [] a h = (refl, refl)
found_clean [] source (c ∷ comparisons) a h = absurd a
found_clean (p ∷ parts) source [] a h = absurd a
found_clean (p ∷ parts) source (c ∷ comparisons) a h =
    clean_more c (totals_of comparisons) (subst SaysEqual (one_comparison p source h.0.0 c h.0.1 a.0) h.0.2) (found_clean parts source comparisons a.1 h.1)

done_clean : (t : Totals) → totals_status t ≡ Done → IsClean t
done_clean t e = go (t.differs == 0) (t.refused == 0) refl refl e
  where
    go : (x y : Bool) → (t.differs == 0) ≡ x → (t.refused == 0) ≡ y → (if x && y then Done else Faulty) ≡ Done → IsClean t
    go true true p q e = (eqb-true t.differs 0 p, eqb-true t.refused 0 q)
    go true false p q e = absurd cc
    go false y p q e = absurd cc

clean_done : (t : Totals) → IsClean t → totals_status t ≡ Done
clean_done t h =
    ap (λ x. if x && (t.refused == 0) then Done else Faulty) (eq-eqb t.differs 0 h.0) ∙ ap (λ y. if true && y then Done else Faulty) (eq-eqb t.refused 0 h.1)

done_or_faulty : (t : Totals) → (totals_status t ≡ Done) ⊎ (totals_status t ≡ Faulty)
done_or_faulty t = elim (t.differs == 0 && t.refused == 0) as (λ b. ((if b then Done else Faulty) ≡ Done) ⊎ ((if b then Done else Faulty) ≡ Faulty)) [ true ↦ inl refl | false ↦ inr refl ]

-- ---- a comparison of two files

module _ (library : Library) (source : Source) (reply : Reply) (c : IsCompared library source reply) where
  status_is : reply.status ≡ totals_status c.0.totals
  status_is = ap (λ (r : Reply). r.status) c.2

  found_equal : reply.status ≡ Done → AreFoundEqual library.cells source
  found_equal e = clean_found library.cells source c.1.comparisons c.1.each (subst IsClean c.1.totals (done_clean c.0.totals (sym status_is ∙ e)))

  equal_found : AreFoundEqual library.cells source → reply.status ≡ Done
  equal_found h = status_is ∙ clean_done c.0.totals (subst IsClean (sym c.1.totals) (found_clean library.cells source c.1.comparisons c.1.each h))

  else_faulty : (AreFoundEqual library.cells source → ⊥) → reply.status ≡ Faulty
  else_faulty differs = elim (done_or_faulty c.0.totals) [ inl e ↦ absurd (differs (found_equal (status_is ∙ e))) | inr e ↦ status_is ∙ e ]

-- ---- the outcome of files that are read

second_compared : (library : Library) (source : Source) (bytes : List ℕ) (reply : Reply) → IsSourceRead bytes (Ok source) → IsSecondReply library bytes reply → IsCompared library source reply
second_compared library source bytes reply read (verilog_refused line h e) = absurd (ok_or_err (Ok source) (Err line) source line refl refl (source_once bytes (Ok source) (Err line) read h))
second_compared library source bytes reply read (compared other h c) =
    subst (λ s. IsCompared library s reply) (same_ok (Ok other) (Ok source) other source refl refl (source_once bytes (Ok other) (Ok source) h read)) c

first_compared : (library : Library) (source : Source) (bytes text : List ℕ) (second : Option (List ℕ)) (reply : Reply) → IsLibraryRead bytes (Ok library) → second ≡ Some text → IsSourceRead text (Ok source)
    → IsFirstReply bytes second reply → IsCompared library source reply
first_compared library source bytes text second reply read there is (liberty_refused line h e) = absurd (ok_or_err (Ok library) (Err line) library line refl refl (library_once bytes (Ok library) (Err line) read h))
first_compared library source bytes text second reply read there is (liberty_read other h words here next) =
    let same : other ≡ library = same_ok (Ok other) (Ok library) other library refl refl (library_once bytes (Ok other) (Ok library) h read) in
    let texts : words ≡ text = one_text second words text here there in
    second_compared library source text reply is (subst (λ t. IsSecondReply library t reply) texts (subst (λ l. IsSecondReply l words reply) same next))

both_compared : (liberty verilog : List ℕ) (file : List ℕ → Option (List ℕ)) (reply : Reply) (a : AreBothRead liberty verilog file) → IsCompareReply liberty verilog file reply → IsCompared a.library a.source reply
both_compared liberty verilog file reply a h =
    first_compared a.library a.source a.liberty_bytes a.verilog_bytes (file verilog) reply a.is_library a.verilog_there a.is_source
    (subst (λ b. IsFirstReply b (file verilog) reply) (one_text (file liberty) h.0 a.liberty_bytes h.1 a.liberty_there) h.2)

accepted_compared : (words : List (List ℕ)) (file : List ℕ → Option (List ℕ)) (reply : Reply) (a : AreAccepted words file) → IsOutcome words file reply → IsCompared a.files.library a.files.source reply
accepted_compared words file reply a o = go (command_of words) refl o
  where
    go : (command : Option Command) → command_of words ≡ command → IsReplyTo command words file reply → IsCompared a.files.library a.files.source reply
    go None e h = absurd (let never : ⊥ = rw e at a.compares in never)
    go (Some c) e h = both_compared (name_beside words Liberty) (name_beside words Verilog) file reply a.files (outcome_named c.name words file reply h)

-- ---- a status of compared files

no_verdict : {Q : Type 0} (reply other : Reply) → reply ≡ other → IsDoneOrFaulty reply.status → (IsDoneOrFaulty other.status → Q) → Q
no_verdict reply other e d f = f (subst (λ (r : Reply). IsDoneOrFaulty r.status) e d)

compared_second : (library : Library) (bytes : List ℕ) (reply : Reply) → IsDoneOrFaulty reply.status → IsSecondReply library bytes reply → (source : Source) × IsSourceRead bytes (Ok source) × IsCompared library source reply
compared_second library bytes reply d (verilog_refused line h e) = no_verdict reply _ e d (λ n. absurd n)
compared_second library bytes reply d (compared source h c) = (source, h, c)

compared_both : (liberty verilog : List ℕ) (file : List ℕ → Option (List ℕ)) (bytes : List ℕ) (reply : Reply) → file liberty ≡ Some bytes → IsDoneOrFaulty reply.status → IsFirstReply bytes (file verilog) reply
    → (a : AreBothRead liberty verilog file) × IsCompared a.library a.source reply
compared_both liberty verilog file bytes reply there d (liberty_refused line h e) = no_verdict reply _ e d (λ n. absurd n)
compared_both liberty verilog file bytes reply there d (liberty_read library h text here next) =
    let second = compared_second library text reply d next in (
      record {
        liberty_bytes = bytes;
        verilog_bytes = text;
        library = library;
        source = second.0;
        liberty_there = there;
        verilog_there = here;
        is_library = h;
        is_source = second.1;
      },
      second.2,
    )

compared_accepted : (words : List (List ℕ)) (file : List ℕ → Option (List ℕ)) (reply : Reply) → IsOutcome words file reply → IsDoneOrFaulty reply.status → (a : AreAccepted words file) × IsCompared a.files.library a.files.source reply
compared_accepted words file reply o d = go (command_of words) refl o
  where
    go : (command : Option Command) → command_of words ≡ command → IsReplyTo command words file reply → (a : AreAccepted words file) × IsCompared a.files.library a.files.source reply
    go None e h = no_verdict reply _ h d (λ n. absurd n)
    go (Some c) e h =
        let k = outcome_named c.name words file reply h in
        let both = compared_both (name_beside words Liberty) (name_beside words Verilog) file k.0 reply k.1 d k.2 in
        (record { compares = rw e (compare_name c.name); files = both.0 }, both.1)

-- ---- the verdict

pub judges_exactly : (words : List (List ℕ)) (file : List ℕ → Option (List ℕ)) (reply : Reply) (no_fault : Type 0) → IsOutcome words file reply → JudgesExactly reply.status words file no_fault
judges_exactly words file reply no_fault o = record {
  done = λ e.
      let c = compared_accepted words file reply o (subst IsDoneOrFaulty (sym e) tt) in
      (c.0, found_equal c.0.files.library c.0.files.source reply c.1 e);
  done_comes = λ a h nf. inl (equal_found a.files.library a.files.source reply (accepted_compared words file reply a o) h);
  faulty = λ e.
      let c = compared_accepted words file reply o (subst IsDoneOrFaulty (sym e) tt) in
      (c.0, λ h. let f : Done ≡ Faulty = sym (equal_found c.0.files.library c.0.files.source reply c.1 h) ∙ e in cc);
  faulty_comes = λ a differs nf. inl (else_faulty a.files.library a.files.source reply (accepted_compared words file reply a o) differs);
}

found_are_equal : (parts : List CellPart) (source : Source) → AreFoundEqual parts source → AreEqual parts source
found_are_equal [] source h = tt
found_are_equal (p ∷ parts) source h = (equal_part p source h.0.0 h.0.1 h.0.2, found_are_equal parts source h.1)

pub done_is_equal : (words : List (List ℕ)) (file : List ℕ → Option (List ℕ)) (reply : Reply) → IsOutcome words file reply → reply.status ≡ Done → IsEqualLibrary words file
done_is_equal words file reply o e =
    let done = (judges_exactly words file reply (Unit {0}) o).done e in
    (done.0, found_are_equal done.0.files.library.cells done.0.files.source done.1)
