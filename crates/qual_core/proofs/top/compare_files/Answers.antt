use Rattle.std.proofs.Common.{◌≡◌, ℕ, List, Option, Bool, IsSome, sym, ◌∙◌, subst, rules}
use Rattle.desk_ports.specs.Faults.{NoneFails}
use Rattle.qual_core.specs.Outcome.{IsCompared}
use Rattle.qual_core.specs.Top.{IsLibraryOf, IsSourceOf, IsCompareAnswer, IsDoneOrFaulty}
use Rattle.compare_text.specs.Blocks.{SaysEqualTruly}
use Rattle.qual_core.specs.declared.reply.Reply.{Reply}
use Rattle.text_scan.specs.declared.limits.Limits.{Limits}
use Rattle.text_scan.specs.Limits.{standard}
use Rattle.liberty_source.specs.Library.{IsLibrary}
use Rattle.verilog_source.specs.Source.{IsSource}
use Rattle.qual_core.proofs.Kept.{library_kept, source_kept}
use Rattle.qual_core.proofs.Replying.{first_refused, second_refused, both_compared, liberty_there, verilog_there, three_ok}
use Rattle.qual_core.proofs.top.compare_files.Goals as goal

pub returns-in-Err-clause-reply : goal.returns-in-Err-clause-reply
returns-in-Err-clause-reply g c told =
    let liberty = c.args.liberty.now in
    let verilog = c.args.verilog.now in
    let file = g.S.Shelf.file c.args.shelf.now in
    let l = subst (λ r. IsLibraryOf (file liberty) r) c.in-Err.is (c.in_ok-library.ensures.read told) in
    subst (λ r. IsCompareAnswer liberty verilog file r) (sym c.refused.ensures) (first_refused liberty verilog file c.in-Err.line l)

pub returns-in-Ok-2-clause-reply : goal.returns-in-Ok-2-clause-reply
returns-in-Ok-2-clause-reply g c told =
    let liberty = c.args.liberty.now in
    let verilog = c.args.verilog.now in
    let file = g.S.Shelf.file c.args.shelf.now in
    let l = subst (λ r. IsLibraryOf (file liberty) r) c.in-Ok.is (c.in_ok-library.ensures.read told) in
    let s = subst (λ f. IsSourceOf (f verilog) c.in_ok-source.field-0) c.in_ok-library.ensures.files (c.in_ok-source.ensures.read told) in
    let t = subst (λ r. IsSourceOf (file verilog) r) c.in-Ok-2.is s in
    three_ok c.compared.result (IsCompared c.in-Ok.library c.in-Ok-2.source) (λ (r : Reply). IsDoneOrFaulty r.status)
    (λ (r : Reply). (limits : Limits) → IsLibrary limits c.in-Ok.library → IsSource limits c.in-Ok-2.source → SaysEqualTruly c.in-Ok.library c.in-Ok-2.source r.text)
    (IsCompareAnswer liberty verilog file)
    (λ reply i d u. both_compared liberty verilog file c.in-Ok.library c.in-Ok-2.source reply l t i d
    (u standard (library_kept l.bytes c.in-Ok.library l.is) (source_kept t.bytes c.in-Ok-2.source t.is)))
    c.compared.ensures.compared c.compared.ensures.verdict c.compared.ensures.truly

pub returns-clause-reply : goal.returns-clause-reply
returns-clause-reply g c told =
    let liberty = c.args.liberty.now in
    let verilog = c.args.verilog.now in
    let file = g.S.Shelf.file c.args.shelf.now in
    let l = subst (λ r. IsLibraryOf (file liberty) r) c.in-Ok.is (c.in_ok-library.ensures.read told) in
    let s = subst (λ f. IsSourceOf (f verilog) c.in_ok-source.field-0) c.in_ok-library.ensures.files (c.in_ok-source.ensures.read told) in
    let t = subst (λ r. IsSourceOf (file verilog) r) c.in-Err-2.is s in
    subst (λ r. IsCompareAnswer liberty verilog file r) (sym c.refused-in-Err-2.ensures) (second_refused liberty verilog file c.in-Ok.library c.in-Err-2.line l t)

pub returns-in_err-source-clause-succeeds : goal.returns-in_err-source-clause-succeeds
returns-in_err-source-clause-succeeds g c told none reply outcome =
    let liberty = c.args.liberty.now in
    let verilog = c.args.verilog.now in
    let file : List ℕ → Option (List ℕ) = g.S.Shelf.file c.args.shelf.now in
    let l = subst (λ r. IsLibraryOf (file liberty) r) c.in-Ok.is (c.in_ok-library.ensures.read told) in
    let there : IsSome (file verilog) = verilog_there c.in-Ok.library liberty verilog file reply l outcome in
    let told_none = subst (λ (f : ℕ → Bool). NoneFails f) (sym c.in_ok-library.ensures.fails) none in
    let told_there = subst (λ (f : List ℕ → Option (List ℕ)). IsSome (f verilog)) (sym c.in_ok-library.ensures.files) there in
    let no_fault = c.in_err-source.ensures.succeeds told told_none told_there in
    search (rules, no_fault)

pub returns-in_err-source-clause-none_missing : goal.returns-in_err-source-clause-none_missing
returns-in_err-source-clause-none_missing g c told reply outcome =
    let liberty = c.args.liberty.now in
    let verilog = c.args.verilog.now in
    let file : List ℕ → Option (List ℕ) = g.S.Shelf.file c.args.shelf.now in
    let l = subst (λ r. IsLibraryOf (file liberty) r) c.in-Ok.is (c.in_ok-library.ensures.read told) in
    let there : IsSome (file verilog) = verilog_there c.in-Ok.library liberty verilog file reply l outcome in
    let told_there = subst (λ (f : List ℕ → Option (List ℕ)). IsSome (f verilog)) (sym c.in_ok-library.ensures.files) there in
    (c.in_err-source.ensures.asked told).missing (told_there, tt) ∙ (c.in_ok-library.ensures.asked told).missing (liberty_there liberty verilog file reply outcome, tt)
