-- The first 42 bytes of a file.
use Rattle.std.proofs.Common.{◌≡◌, ◌≢◌, ◌⊎◌, inl, inr, ⊎_elim, ℕ, ◌-◌, ◌≤◌, ◌<◌, min, List, length, get_or, take, drop, refl, sym, ◌∙◌, ap, subst, arith, get_or-take}
use Rattle.std.proofs.lemmas.List.{take_all, take-take, drop-take, length-take-le}
use Rattle.std.proofs.lemmas.Bool.{cases_lt}
use Rattle.report_journal.specs.Image.{plain_head, header, NoJournalYet}
use Rattle.report_journal.specs.Open.{IsBroken, Refuses}
use Rattle.report_journal.specs.Steps.{BeginsWith, IsNew, IsJudged, IsStuck}
use Rattle.report_journal.specs.declared.opening.OpenError.{OpenError}
use Rattle.report_journal.specs.declared.opening.OpenError.TheVariants.{Failed, OtherInputs, NotJournal, TooLong, BrokenRecord}

-- what was read of the file
pub record IsFront (front bytes : List ℕ) (count : ℕ) : Type 0 where
  pub size : length front ≡ 42
  pub many : count ≡ min 42 (length bytes - 0)
  pub same : take count front ≡ take count bytes

module _ (front bytes : List ℕ) (count : ℕ) (is : IsFront front bytes count) where
  pub begins : BeginsWith bytes (get_or front 0 0)
  begins some =
      let one : 0 < count = omega (arith, is.many, some) in
      sym (get_or-take count bytes 0 0 one) ∙ ap (λ (l : List ℕ). get_or l 0 0) (sym is.same) ∙ get_or-take count front 0 0 one

  pub is_no_journal : IsNew (length bytes) (get_or front 0 0) → NoJournalYet bytes
  is_no_journal (inl few) = inl few
  is_no_journal (inr (size, shut)) = inr (size, λ one. shut (sym (begins (omega (arith, size))) ∙ one))

  module _ (there : IsNew (length bytes) (get_or front 0 0) → ⊥) where
    pub long : 42 ≤ length bytes
    long = ⊎_elim (λ few. absurd (there (inl few))) (λ le. le) (cases_lt (length bytes) 42)

    pub not_new : NoJournalYet bytes → ⊥
    not_new new = ⊎_elim (λ few. there (inl few)) (λ (w : (length bytes ≡ 42) × (get_or bytes 0 0 ≢ 1)).
        there (inr (w.0, λ one. w.1 (begins (omega (arith, w.0)) ∙ one)))) new

    front_is : front ≡ take 42 bytes
    front_is =
        let all : count ≡ 42 = omega (arith, is.many, long) in
        sym (take_all 42 front (omega (arith, is.size))) ∙ subst (λ (m : ℕ). take m front ≡ take m bytes) all is.same

    pub front_take : (m : ℕ) → m ≤ 42 → take m front ≡ take m bytes
    front_take m le = ap (λ (l : List ℕ). take m l) front_is ∙ take-take m 42 bytes le

    front_kept : take 32 (drop 9 front) ≡ take 32 (drop 9 bytes)
    front_kept = ap (λ (l : List ℕ). take 32 (drop 9 l)) front_is ∙ ap (λ (l : List ℕ). take 32 l) (drop-take 9 33 bytes) ∙ take-take 32 33 (drop 9 bytes) (omega arith)

    pub judged : (key : List ℕ) (e : OpenError) → length bytes ≤ 4294987818 → IsJudged key front e → Refuses key bytes e
    judged key Failed size j = j
    judged key (TooLong n) size j = absurd j
    judged key (NotJournal first) size (other, is_first) = (record { within = size; there = not_new }, λ same. other (front_take 9 (omega arith) ∙ same), is_first ∙ front_take 8 (omega arith))
    judged key (OtherInputs kept) size (same, is_kept, other) = (record { within = size; there = not_new }, sym (front_take 9 (omega arith)) ∙ same, is_kept ∙ front_kept, other)
    judged key (BrokenRecord index) size j = absurd j

    -- a header with the key
    pub key_size : (key : List ℕ) → take 41 bytes ≡ header key → length key ≡ 32
    key_size key is = omega (arith, ap length is, length-take-le 41 bytes (omega (arith, long)))

    -- a walk that didn't end
    pub stuck : (key : List ℕ) (e : OpenError) → length bytes ≤ 4294987818 → take 41 bytes ≡ header key → IsStuck bytes e → (e ≡ Failed) ⊎ Refuses key bytes e
    stuck key Failed size is s = inl refl
    stuck key (TooLong n) size is s = absurd s
    stuck key (NotJournal first) size is s = absurd s
    stuck key (OtherInputs kept) size is s = absurd s
    stuck key (BrokenRecord index) size is s =
        inr (record { within = size; there = not_new }, is, subst (λ (l : List ℕ). IsBroken l plain_head bytes index) is s)
