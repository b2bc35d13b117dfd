-- A walk over the records behind the first 41 bytes.
use Rattle.std.proofs.Common.{◌≡◌, inl, inr, ℕ, ◌+◌, ◌≤◌, ◌<◌, List, [], ◌∷◌, ◌++◌, length, take, drop, refl, sym, ◌∙◌, ap, arith, append_assoc, length-append, take-append-drop}
use Rattle.std.proofs.lemmas.List.{drop_at, length_push, length-take-le}
use Rattle.std.proofs.lemmas.List.Elements.{All-nil, All-push}
use Rattle.report_journal.specs.Image.{plain_head, records, IsBlock, AreBlocks, IsShut, IsLaidOut}
use Rattle.report_journal.specs.Disks.{AtMostRecords}
use Rattle.report_journal.specs.Open.{NoRecord, IsBroken}
use Rattle.report_journal.specs.Steps.{IsRecord}
use Rattle.report_journal.proofs.Records.{records-push, length-records_push}

-- so many records stand before a place
pub record WalkedTo (bytes : List ℕ) (count place : ℕ) : Type 0 where
  pub front_size : length (take 41 bytes) ≡ 41
  pub blocks : List (List ℕ)
  pub are_blocks : AreBlocks blocks
  pub count_is : count ≡ length blocks
  pub place_is : place ≡ 41 + length (records plain_head blocks)
  pub bytes_are : bytes ≡ take 41 bytes ++ (records plain_head blocks ++ drop place bytes)

pub walked_none : (bytes : List ℕ) → 41 ≤ length bytes → WalkedTo bytes 0 41
walked_none bytes some = record {
  front_size = length-take-le 41 bytes some;
  blocks = [];
  are_blocks = record { each = All-nil IsBlock; few = omega arith };
  count_is = refl;
  place_is = refl;
  bytes_are = sym (take-append-drop 41 bytes);
}

module _ (bytes : List ℕ) (count place : ℕ) (w : WalkedTo bytes count place) where
  pub walked_more : (size : ℕ) → count < 4096 → IsRecord (drop place bytes) size → WalkedTo bytes (count + 1) (place + (5 + size))
  walked_more size few r =
      let more = w.blocks ++ r.block ∷ [] in
      let whole : bytes ≡ take 41 bytes ++ (records plain_head more ++ r.left) =
      w.bytes_are ∙ ap (λ (l : List ℕ). take 41 bytes ++ l) (ap (λ (l : List ℕ). records plain_head w.blocks ++ l) r.bytes ∙ sym (records-push plain_head w.blocks r.block r.left)) in
      let place_is : place + (5 + size) ≡ 41 + length (records plain_head more) = omega (arith, w.place_is, length-records_push plain_head 4 (λ n. refl) w.blocks r.block, r.size_is) in
      let long : length (take 41 bytes ++ records plain_head more) ≡ place + (5 + size) = omega (arith, place_is, length-append (take 41 bytes) (records plain_head more), w.front_size) in
      let rest_is : drop (place + (5 + size)) bytes ≡ r.left =
      ap (λ (l : List ℕ). drop (place + (5 + size)) l) (whole ∙ sym (append_assoc (take 41 bytes) (records plain_head more) r.left)) ∙ drop_at (take 41 bytes ++ records plain_head more) r.left (place + (5 + size)) long in
      record {
        front_size = w.front_size;
        blocks = more;
        are_blocks = record { each = All-push IsBlock w.blocks r.block w.are_blocks.each r.is_block; few = omega (arith, length_push w.blocks r.block, w.count_is, few) };
        count_is = omega (arith, length_push w.blocks r.block, w.count_is);
        place_is = place_is;
        bytes_are = whole ∙ ap (λ (l : List ℕ). take 41 bytes ++ (records plain_head more ++ l)) (sym rest_is);
      }

  pub walked_shut : IsShut (drop place bytes) → IsLaidOut (take 41 bytes) plain_head IsShut bytes w.blocks
  walked_shut shut = record { rest = drop place bytes; bytes = w.bytes_are; ends = shut; are_blocks = w.are_blocks }

  pub walked_broken : NoRecord plain_head (drop place bytes) → IsBroken (take 41 bytes) plain_head bytes count
  walked_broken none = record { blocks = w.blocks; are_blocks = w.are_blocks; index_is = w.count_is; rest = drop place bytes; bytes = w.bytes_are; broken = inl none }

  pub walked_too_many : (size : ℕ) → count ≡ 4096 → IsRecord (drop place bytes) size → IsBroken (take 41 bytes) plain_head bytes count
  walked_too_many size full r =
      record { blocks = w.blocks; are_blocks = w.are_blocks; index_is = w.count_is; rest = drop place bytes; bytes = w.bytes_are; broken = inr (omega (arith, w.count_is, full), (_, r.bytes)) }

  pub walked_most : (most : ℕ) → AtMostRecords most bytes → count ≤ most
  walked_most most at_most = omega (arith, w.count_is, at_most (take 41 bytes) w.blocks (drop place bytes) w.front_size w.are_blocks.each w.bytes_are)
