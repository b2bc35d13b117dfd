-- One change more of a memory disk: its log, its bytes, its images and its clock.
use Rattle.std.proofs.Common.{◌≡◌, ◌⊎◌, inl, inr, ℕ, ◌+◌, ◌≤◌, List, [], ◌∷◌, ◌++◌, length, take, drop, Some, refl, sym, ◌∙◌, ap, subst, arith, length-drop}
use Rattle.std.proofs.lemmas.List.{take_all, drop_all, take-append-le, drop-append-le}
use Rattle.desk_ports.specs.Disk.{overwritten, Torn}
use Rattle.desk_ports.specs.MemDisk.{Change, Wrote, Synced, bytes_after, IsImage, IsImageSince}
use Rattle.desk_ports.specs.DiskLog.{past_from, piece_bytes}
use Rattle.desk_ports.specs.declared.disk_entry.Entry.{Entry}
use Rattle.desk_ports.specs.declared.disk_entry.Entry.TheVariants.{Write, Sync}

pub past_write : (past : List Change) (log : List Entry) (pieces piece : List ℕ) (place : ℕ) → piece_bytes log ≡ length pieces
    → past_from past (log ++ Write place (length piece) ∷ []) (pieces ++ piece) ≡ Wrote place piece ∷ past_from past log pieces
past_write past [] [] piece place all = ap (λ (l : List ℕ). Wrote place l ∷ past) (take_all (length piece) piece (omega arith))
past_write past [] (b ∷ pieces) piece place all = absurd (omega (arith, all))
past_write past (Write p size ∷ log) pieces piece place all =
    let small : size ≤ length pieces = omega (arith, all) in
    ap (λ (l : List ℕ). past_from (Wrote p l ∷ past) (log ++ Write place (length piece) ∷ []) (drop size (pieces ++ piece))) (take-append-le size pieces piece small)
    ∙ ap (λ (l : List ℕ). past_from (Wrote p (take size pieces) ∷ past) (log ++ Write place (length piece) ∷ []) l) (drop-append-le size pieces piece small)
    ∙ past_write (Wrote p (take size pieces) ∷ past) log (drop size pieces) piece place (omega (arith, all, length-drop size pieces))
past_write past (Sync ∷ log) pieces piece place all = past_write (Synced ∷ past) log pieces piece place all

pub past_sync : (past : List Change) (log : List Entry) (pieces : List ℕ) → past_from past (log ++ Sync ∷ []) pieces ≡ Synced ∷ past_from past log pieces
past_sync past [] pieces = refl
past_sync past (Write p size ∷ log) pieces = past_sync (Wrote p (take size pieces) ∷ past) log (drop size pieces)
past_sync past (Sync ∷ log) pieces = past_sync (Synced ∷ past) log pieces

pub piece_bytes-push : (log : List Entry) (entry : Entry) → piece_bytes (log ++ entry ∷ []) ≡ piece_bytes log + piece_bytes (entry ∷ [])
piece_bytes-push [] entry = omega arith
piece_bytes-push (Write p size ∷ log) entry = omega (arith, piece_bytes-push log entry)
piece_bytes-push (Sync ∷ log) entry = piece_bytes-push log entry

-- a list of changes with one more in front, and the first bytes as they were
module _ (past next : List Change) (first same : List ℕ) (change : Change) (is : next ≡ change ∷ past) (stays : same ≡ first) where
  pub bytes_next : bytes_after next same ≡ bytes_after (change ∷ past) first
  bytes_next = ap (λ (p : List Change). bytes_after p same) is ∙ ap (λ (l : List ℕ). bytes_after (change ∷ past) l) stays

  pub image_next : (c : List ℕ) → IsImage next same c ≡ IsImage (change ∷ past) first c
  image_next c = ap (λ (p : List Change). IsImage p same c) is ∙ ap (λ (l : List ℕ). IsImage (change ∷ past) l c) stays

  since_next : (t : ℕ) (c : List ℕ) → IsImageSince next same t c ≡ IsImageSince (change ∷ past) first t c
  since_next t c = ap (λ (p : List Change). IsImageSince p same t c) is ∙ ap (λ (l : List ℕ). IsImageSince (change ∷ past) l t c) stays

  pub later : length past ≤ length next
  later = omega (arith, ap length is)

  pub comes : (t : ℕ) (c : List ℕ) → IsImageSince next same t c → IsImageSince past first t c ⊎ IsImage next same c
  comes t c since = elim (subst (λ T. T) (since_next t c) since) [
    | inl now ↦ inr (subst (λ T. T) (sym (image_next c)) now)
    | inr before ↦ inl before.1
  ]

  pub since_stays : (t : ℕ) (c : List ℕ) → t ≤ length past → IsImageSince past first t c → IsImageSince next same t c
  since_stays t c late since = subst (λ T. T) (sym (since_next t c)) (inr (late, since))
