use Rattle.std.proofs.Common.{◌≡◌, ◌<◌, ◌⊎◌, List, ℕ, length, inl, inr, ⊎_elim, subst, sym, ◌∙◌, arith}
use Rattle.desk_ports.specs.Disk.{Torn}
use Rattle.report_journal.specs.Image.{NoJournalYet}
use Rattle.report_journal.specs.Steps.{BeginsWith}
use Rattle.report_journal.proofs.Moments.{adds_weaker}
use Rattle.report_journal.proofs.NewHeader.{short, while_shutting, shut_now, shut_already}
use Rattle.report_journal.proofs.header.shut_header.Goals as goal

few : (bytes : List ℕ) (size first : ℕ) → NoJournalYet bytes × (size ≡ length bytes) × BeginsWith bytes first → (size ≡ 0) ⊎ ((size ≡ 0 → ⊥) × (first ≡ 1)) → length bytes < 42
few bytes size first (new, same, begins) why = short bytes first new begins (⊎_elim (λ none. inl (sym same ∙ none)) (λ w. inr w.1) why)

pub returns-in_err-write_synced-clause-any_moment :
    goal.returns-in_err-write_synced-clause-any_moment
returns-in_err-write_synced-clause-any_moment g c = λ bytes known.
    adds_weaker _ _ _ _ _ _ c.write_synced.ensures.any_moment
    (λ x was. while_shutting bytes x (few bytes c.args.size c.args.first (c.requires.new bytes known) c.then-size-eq0.either) (subst (λ (d : List ℕ). Torn 0 1 d x) (c.requires.only bytes known was.0 was.1) was.2))

pub returns-in_ok-write_synced-clause-shut : goal.returns-in_ok-write_synced-clause-shut
returns-in_ok-write_synced-clause-shut g c = λ bytes known.
    (_, c.in_ok-write_synced.ensures.durable bytes known, shut_now bytes (few bytes c.args.size c.args.first (c.requires.new bytes known) c.then-size-eq0.either))

pub returns-in_ok-write_synced-clause-any_moment :
    goal.returns-in_ok-write_synced-clause-any_moment
returns-in_ok-write_synced-clause-any_moment g c = λ bytes known.
    adds_weaker _ _ _ _ _ _ c.write_synced.ensures.any_moment
    (λ x was. while_shutting bytes x (few bytes c.args.size c.args.first (c.requires.new bytes known) c.then-size-eq0.either) (subst (λ (d : List ℕ). Torn 0 1 d x) (c.requires.only bytes known was.0 was.1) was.2))

pub returns-else-first-eq1-clause-shut : goal.returns-else-first-eq1-clause-shut
returns-else-first-eq1-clause-shut g c = λ bytes known.
    let new = c.requires.new bytes known in
    (bytes, record { reads_them = known; only = c.requires.only bytes known }, shut_already bytes c.args.first new.0 new.2 (omega (arith, new.1, c.if-size-eq0.false)) c.if-first-eq1.false)
