-- The three steps of a new header.
use Rattle.std.proofs.Common.{◌≡◌, ◌≢◌, ◌⊎◌, inl, inr, ⊎_elim, ℕ, ◌≤◌, ◌<◌, List, [], ◌∷◌, ◌++◌, length, get_or, drop, refl, sym, ◌∙◌, ap, subst, arith, length-append, length-drop}
use Rattle.std.proofs.lemmas.List.{drop_all, append-nil}
use Rattle.std.proofs.lemmas.List.Elements.{All-nil}
use Rattle.std.proofs.lemmas.Bool.{cases_eq, cases_lt}
use Rattle.desk_ports.specs.Disk.{overwritten, Torn}
use Rattle.report_journal.specs.Image.{magic, header, IsBlock, NoJournalYet, StandsFor}
use Rattle.report_journal.specs.Steps.{IsShutHeader, BeginsWith}
use Rattle.report_journal.proofs.Split.{overwritten_at, torn_behind, one_torn}

-- an empty file, or one whose first byte is 1
pub short : (bytes : List ℕ) (first : ℕ) → NoJournalYet bytes → BeginsWith bytes first → (length bytes ≡ 0) ⊎ (first ≡ 1) → length bytes < 42
short bytes first (inl few) begins why = few
short bytes first (inr (size, shut)) begins why =
    ⊎_elim (λ none. omega (arith, none, size)) (λ one. absurd (shut (begins (omega (arith, size)) ∙ one))) why

pub while_shutting : (bytes c : List ℕ) → length bytes < 42 → Torn 0 1 bytes c → NoJournalYet c
while_shutting bytes c few torn = inl (omega (arith, torn.no_longer, few))

pub shut_now : (bytes : List ℕ) → length bytes < 42 → IsShutHeader (overwritten bytes 0 (0 ∷ []))
shut_now bytes few = record {
  is_shut = record { gate = 0; behind = drop 1 bytes; bytes = refl; shut = omega arith };
  most = omega (arith, length-drop 1 bytes, few);
}

pub shut_already : (bytes : List ℕ) (first : ℕ) → NoJournalYet bytes → BeginsWith bytes first → 0 < length bytes → first ≢ 1 → IsShutHeader bytes
shut_already [] first new begins some shut = absurd (omega (arith, some))
shut_already (b ∷ bytes) first new begins some shut = record {
  is_shut = record { gate = b; behind = bytes; bytes = refl; shut = λ one. shut (sym (begins some) ∙ one) };
  most = ⊎_elim (λ few. omega (arith, few)) (λ (w : (length (b ∷ bytes) ≡ 42) × (b ≢ 1)). omega (arith, w.0)) new;
}

-- a shut header of at most 42 bytes
shut_42 : (gate : ℕ) (left c : List ℕ) → c ≡ gate ∷ left → gate ≢ 1 → length c ≤ 42 → NoJournalYet c
shut_42 gate left c is shut most =
    ⊎_elim (λ few. inl few) (λ full. inr (omega (arith, full, most), λ one. shut (sym (ap (λ (l : List ℕ). get_or l 0 0) is) ∙ one))) (cases_lt (length c) 42)

module _ (key : List ℕ) (is_32 : length key ≡ 32) where
  abbrev body : List ℕ
  body = magic ++ (key ++ 0 ∷ [])

  length-body : length body ≡ 41
  length-body = omega (arith, is_32, length-append key (0 ∷ []))

  pub while_writing : (bytes c : List ℕ) → IsShutHeader bytes → Torn 1 (length body) bytes c → NoJournalYet c
  while_writing bytes c h torn =
      let split = torn_behind (h.is_shut.gate ∷ []) h.is_shut.behind 1 (length body) c refl (subst (λ (l : List ℕ). Torn 1 (length body) l c) h.is_shut.bytes torn) in
      shut_42 h.is_shut.gate split.left c split.bytes h.is_shut.shut (omega (arith, torn.no_longer, h.most, length-body))

  pub written_is : (bytes : List ℕ) (h : IsShutHeader bytes) → overwritten bytes 1 body ≡ h.is_shut.gate ∷ body
  written_is bytes h =
      let gate = h.is_shut.gate in
      let behind = h.is_shut.behind in
      ap (λ (l : List ℕ). overwritten l 1 body) h.is_shut.bytes ∙ overwritten_at (gate ∷ []) behind body 1 refl
      ∙ ap (λ (l : List ℕ). gate ∷ (body ++ l)) (drop_all (length body) behind (omega (arith, ap length h.is_shut.bytes, h.most, length-body)))
      ∙ ap (λ (l : List ℕ). gate ∷ l) (append-nil body)

  pub stands_empty : StandsFor key (header key ++ 0 ∷ []) []
  stands_empty = record {
    key_size = is_32;
    laid_out = record {
      rest = 0 ∷ [];
      bytes = refl;
      ends = record { gate = 0; behind = []; bytes = refl; shut = omega arith };
      are_blocks = record { each = All-nil IsBlock; few = omega arith };
    };
    size = omega (arith, length-append (header key) (0 ∷ []), is_32);
  }

  pub while_opening : (gate : ℕ) (c : List ℕ) → Torn 0 1 (gate ∷ body) c → NoJournalYet c ⊎ StandsFor key c []
  while_opening gate c torn =
      let one = one_torn gate body c torn in
      ⊎_elim (λ is_open. inr (subst (λ (l : List ℕ). StandsFor key l []) (sym (one.1 ∙ ap (λ (g : ℕ). g ∷ body) is_open)) stands_empty))
      (λ shut. inl (shut_42 one.0 body c one.1 shut (omega (arith, ap length one.1, length-body)))) (cases_eq one.0 1)
