-- The laws of a memory disk: what it reads is an image, and its clock.
use Rattle.std.specs.Prelude.{◌≡◌, ◌⊎◌, ℕ, zero, suc, ◌+◌, ◌-◌, ◌≤◌, min, max, List, [], ◌∷◌, ◌++◌, length, take, drop, refl, Some}
use Rattle.std.proofs.Common.{sym, ◌∙◌, ap, subst, inl, inr, ⊎_elim, arith, append_assoc, length-append, length-drop, length-take}
use Rattle.std.proofs.lemmas.List.{take_all, take_at, drop_at, take-append-le, drop-append-le, length-take-le, drop_all, take_min, append-nil}
use Rattle.std.proofs.lemmas.Bool.{cases_lt}
use Rattle.desk_ports.specs.Disk.{overwritten, Torn}
use Rattle.desk_ports.specs.MemDisk.{Change, Wrote, Synced, bytes_after, IsImage, IsImageSince}

-- a write that was done whole is one that was torn, within the bytes
module _ (old piece : List ℕ) (place : ℕ) (within : place ≤ length old) where
  abbrev tail : List ℕ
  tail = drop (place + length piece) old

  abbrev new : List ℕ
  new = overwritten old place piece

  is_new : new ≡ take place old ++ (piece ++ tail)
  is_new = append_assoc (take place old) piece tail

  length_front : length (take place old) ≡ place
  length_front = length-take-le place old within

  size : length new ≡ place + (length piece + length tail)
  size = omega (arith, ap length is_new, length-append (take place old) (piece ++ tail), length-append piece tail, length_front)

  starts : take place new ≡ take place old
  starts = ap (λ (l : List ℕ). take place l) is_new ∙ take_at (take place old) (piece ++ tail) place length_front

  ends : drop (place + length piece) new ≡ tail
  ends = drop_at (take place old ++ piece) tail (place + length piece) (omega (arith, length-append (take place old) piece, length_front))

  stays : drop (place + length piece) (take (length old) new) ≡ drop (place + length piece) old
  stays = ⊎_elim
      (λ inside. ap (λ (l : List ℕ). drop (place + length piece) l) (take_all (length old) new (omega (arith, size, length-drop (place + length piece) old, inside))) ∙ ends)
      (λ past. drop_all (place + length piece) (take (length old) new) (omega (arith, length-take (length old) new, past)) ∙ sym (drop_all (place + length piece) old past))
      (cases_lt (place + length piece) (length old))

  torn_within : Torn place (length piece) old new
  torn_within = record {
    before = ap (λ (m : ℕ). take m new) (omega (arith, within)) ∙ starts;
    after = stays;
    no_shorter = omega (arith, size, length-drop (place + length piece) old, within);
    no_longer = omega (arith, size, length-drop (place + length piece) old, within);
  }

-- and past their end
torn_past : (old piece : List ℕ) (place : ℕ) → length old ≤ place → Torn place (length piece) old (overwritten old place piece)
torn_past old piece place past =
    let new = overwritten old place piece in
    let whole : new ≡ old ++ piece =
    ap (λ (l : List ℕ). l ++ piece ++ drop (place + length piece) old) (take_all place old past)
    ∙ ap (λ (l : List ℕ). old ++ piece ++ l) (drop_all (place + length piece) old (omega (arith, past))) ∙ append-nil (old ++ piece) in
    let size : length new ≡ length old + length piece = omega (arith, ap length whole, length-append old piece) in
    record {
      before = ap (λ (m : ℕ). take m new) (omega (arith, past)) ∙ ap (λ (l : List ℕ). take (length old) l) whole ∙ take_at old piece (length old) refl ∙ sym (take_all place old past);
      after = drop_all (place + length piece) (take (length old) new) (omega (arith, length-take (length old) new, past)) ∙ sym (drop_all (place + length piece) old (omega (arith, past)));
      no_shorter = omega (arith, size);
      no_longer = omega (arith, size, past);
    }

pub torn_whole : (old piece : List ℕ) (place : ℕ) → Torn place (length piece) old (overwritten old place piece)
torn_whole old piece place = ⊎_elim (λ inside. torn_within old piece place (omega (arith, inside))) (λ past. torn_past old piece place past) (cases_lt place (length old))

-- a write that did nothing is one that was torn
pub torn_none : (old : List ℕ) (place size : ℕ) → Torn place size old old
torn_none old place size = record {
  before = take_min place old;
  after = ap (λ (l : List ℕ). drop (place + size) l) (take_all (length old) old (omega arith));
  no_shorter = omega arith;
  no_longer = omega arith;
}

-- what a read gives is an image
pub reads_as_image : (past : List Change) (first : List ℕ) → IsImage past first (bytes_after past first)
reads_as_image [] first = refl
reads_as_image (Wrote place piece ∷ past) first =
    (bytes_after past first, reads_as_image past first, torn_whole (bytes_after past first) piece place)
reads_as_image (Synced ∷ past) first = refl

pub bytes_image : (past : List Change) (first bytes : List ℕ) → Some (bytes_after past first) ≡ Some bytes → IsImage past first bytes
bytes_image past first bytes is =
    let same : bytes_after past first ≡ bytes = cc (is) in
    subst (λ (c : List ℕ). IsImage past first c) same (reads_as_image past first)

-- an image of now is one since any moment, and since now there is no other
pub image_now : (past : List Change) (first : List ℕ) (t : ℕ) (c : List ℕ) → IsImage past first c → IsImageSince past first t c
image_now [] first t c is = is
image_now (change ∷ past) first t c is = inl is

pub image_only_now : (past : List Change) (first c : List ℕ) → IsImageSince past first (length past) c → IsImage past first c
image_only_now [] first c is = is
image_only_now (change ∷ past) first c (inl is) = is
image_only_now (change ∷ past) first c (inr (late, is)) = absurd (omega (arith, late))
