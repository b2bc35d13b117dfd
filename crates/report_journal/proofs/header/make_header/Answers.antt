use Rattle.std.proofs.Common.{◌≡◌, ◌⊎◌, ◌∷◌, ◌++◌, [], List, ℕ, length, inl, subst, ap, ◌∙◌}
use Rattle.desk_ports.specs.Disk.{Torn, overwritten}
use Rattle.report_journal.specs.Image.{NoJournalYet, StandsFor, magic}
use Rattle.report_journal.specs.Disks.{Holds}
use Rattle.report_journal.proofs.Moments.{adds_then}
use Rattle.report_journal.proofs.NewHeader.{while_writing, written_is, while_opening, stands_empty}
use Rattle.report_journal.proofs.header.make_header.Goals as goal

pub returns-in_err-write_synced-2-clause-any_moment :
    goal.returns-in_err-write_synced-2-clause-any_moment
returns-in_err-write_synced-2-clause-any_moment g c = λ bytes known.
    let key = c.args.digest.now in
    let now = c.in_ok-shut_header.ensures.shut bytes known in
    let staged = c.in_ok-write_synced.ensures.durable now.0 now.1.reads_them in
    let staged_is : overwritten now.0 1 c.header_body.result ≡ now.2.is_shut.gate ∷ (magic ++ (key ++ 0 ∷ [])) = ap (λ (l : List ℕ). overwritten now.0 1 l) c.header_body.ensures ∙ written_is key c.told-digest now.0 now.2 in
    adds_then _ _ _ _ _ (λ x. NoJournalYet x ⊎ StandsFor key x []) _ _
    (adds_then _ _ _ _ _ _ _ (λ x. NoJournalYet x ⊎ StandsFor key x []) (c.shut_header.ensures.any_moment bytes known) c.write_synced.ensures.any_moment
    (λ x new. inl new)
    (λ x was. inl (while_writing key c.told-digest now.0 x now.2 (subst (λ (l : List ℕ). Torn 1 (length l) now.0 x) c.header_body.ensures (subst (λ (d : List ℕ). Torn 1 (length c.header_body.result) d x) (now.1.only was.0 was.1) was.2)))))
    c.write_synced-2.ensures.any_moment
    (λ x p. p)
    (λ x was. while_opening key c.told-digest now.2.is_shut.gate x (subst (λ (d : List ℕ). Torn 0 1 d x) (staged.only was.0 was.1 ∙ staged_is) was.2))

pub returns-clause-made : goal.returns-clause-made
returns-clause-made g c = λ bytes known.
    let key = c.args.digest.now in
    let now = c.in_ok-shut_header.ensures.shut bytes known in
    let staged = c.in_ok-write_synced.ensures.durable now.0 now.1.reads_them in
    let staged_is : overwritten now.0 1 c.header_body.result ≡ now.2.is_shut.gate ∷ (magic ++ (key ++ 0 ∷ [])) = ap (λ (l : List ℕ). overwritten now.0 1 l) c.header_body.ensures ∙ written_is key c.told-digest now.0 now.2 in
    let done = c.in_ok-write_synced-2.ensures.durable _ staged.reads_them in
    subst (Holds g.D.Disk.reads g.D.Disk.image c.write_synced-2.new.disk) (ap (λ (l : List ℕ). overwritten l 0 (1 ∷ [])) staged_is) done

pub returns-clause-any_moment : goal.returns-clause-any_moment
returns-clause-any_moment g c = λ bytes known.
    let key = c.args.digest.now in
    let now = c.in_ok-shut_header.ensures.shut bytes known in
    let staged = c.in_ok-write_synced.ensures.durable now.0 now.1.reads_them in
    let staged_is : overwritten now.0 1 c.header_body.result ≡ now.2.is_shut.gate ∷ (magic ++ (key ++ 0 ∷ [])) = ap (λ (l : List ℕ). overwritten now.0 1 l) c.header_body.ensures ∙ written_is key c.told-digest now.0 now.2 in
    adds_then _ _ _ _ _ (λ x. NoJournalYet x ⊎ StandsFor key x []) _ _
    (adds_then _ _ _ _ _ _ _ (λ x. NoJournalYet x ⊎ StandsFor key x []) (c.shut_header.ensures.any_moment bytes known) c.write_synced.ensures.any_moment
    (λ x new. inl new)
    (λ x was. inl (while_writing key c.told-digest now.0 x now.2 (subst (λ (l : List ℕ). Torn 1 (length l) now.0 x) c.header_body.ensures (subst (λ (d : List ℕ). Torn 1 (length c.header_body.result) d x) (now.1.only was.0 was.1) was.2)))))
    c.write_synced-2.ensures.any_moment
    (λ x p. p)
    (λ x was. while_opening key c.told-digest now.2.is_shut.gate x (subst (λ (d : List ℕ). Torn 0 1 d x) (staged.only was.0 was.1 ∙ staged_is) was.2))

pub returns-clause-empty : goal.returns-clause-empty
returns-clause-empty g c = stands_empty c.args.digest.now c.told-digest
