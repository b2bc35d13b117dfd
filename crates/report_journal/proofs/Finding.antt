-- Where the record of a block stands, and what is read of it.
use Rattle.std.proofs.Common.{◌≡◌, ℕ, ◌+◌, ◌-◌, ◌<◌, min, List, [], ◌∷◌, ◌++◌, length, get_or, take, drop, refl, sym, ◌∙◌, ap, arith, append_assoc, length-append, length-drop, take-append-drop}
use Rattle.std.proofs.lemmas.List.{drop_at, drop_more, take_more, drop-drop, take_all, take_at}
use Rattle.std.proofs.lemmas.List.Elements.{All-get_or}
use Rattle.std.proofs.lemmas.Nat.{from_be_bytes-to_be_bytes_4}
use Rattle.std.specs.Int.{w32, from_be_bytes}
use Rattle.report_journal.specs.Image.{plain_head, header, records, IsBlock, StandsFor}
use Rattle.report_journal.specs.Steps.{IsRecord}
use Rattle.report_journal.proofs.Records.{length-header, length-records_push, records-append, one_front}

-- what stands behind the gate of a record
behind_gate : (bytes : List ℕ) (place size : ℕ) (r : IsRecord (drop place bytes) size) → drop (place + 1) bytes ≡ plain_head (length r.block) ++ (r.block ++ r.left)
behind_gate bytes place size r = sym (drop-drop 1 place bytes) ∙ ap (λ (l : List ℕ). drop 1 l) r.bytes

-- the four bytes behind a gate say the size
pub size_read : (bytes room : List ℕ) (place size count : ℕ) → IsRecord (drop place bytes) size → length room ≡ 4 → count ≡ min (length room) (length bytes - (place + 1))
    → take count room ≡ take count (drop (place + 1) bytes) → from_be_bytes w32 room ≡ size
size_read bytes room place size count r is_4 many same =
    let rest = plain_head (length r.block) ++ (r.block ++ r.left) in
    let behind : drop (place + 1) bytes ≡ rest = behind_gate bytes place size r in
    let long : length bytes - (place + 1) ≡ 4 + length (r.block ++ r.left) = omega (arith, ap length behind, length-drop (place + 1) bytes) in
    let all : count ≡ 4 = omega (arith, many, is_4, long) in
    let head : room ≡ plain_head (length r.block) =
    sym (take_all count room (omega (arith, all, is_4))) ∙ same ∙ ap (λ (l : List ℕ). take count l) behind ∙ ap (λ (n : ℕ). take n rest) all ∙ take_at (plain_head (length r.block)) (r.block ++ r.left) 4 refl in
    ap (λ (l : List ℕ). from_be_bytes w32 l) head ∙ from_be_bytes-to_be_bytes_4 (length r.block) (omega (arith, r.is_block.1)) ∙ sym r.size_is

-- and what stands behind them is the block
block_read : (bytes room block left : List ℕ) (place count : ℕ) → drop place bytes ≡ 1 ∷ (plain_head (length block) ++ (block ++ left)) → length room ≡ length block
    → count ≡ min (length room) (length bytes - (place + 5)) → take count room ≡ take count (drop (place + 5) bytes) → take count room ≡ block
block_read bytes room block left place count is size many same =
    let behind : drop (place + 5) bytes ≡ block ++ left = sym (drop-drop 5 place bytes) ∙ ap (λ (l : List ℕ). drop 5 l) is ∙ drop_at (plain_head (length block)) (block ++ left) 4 refl in
    let long : length bytes - (place + 5) ≡ length block + length left = omega (arith, ap length behind, length-drop (place + 5) bytes, length-append block left) in
    same ∙ ap (λ (l : List ℕ). take count l) behind ∙ take_at block left count (omega (arith, many, size, long))

module _ (key : List ℕ) (blocks : List (List ℕ)) (bytes : List ℕ) (stands : StandsFor key bytes blocks) (k place : ℕ) (few : k < length blocks) (at : place ≡ 41 + length (records plain_head (take k blocks))) where
  abbrev block : List ℕ
  block = get_or blocks k []

  abbrev left : List ℕ
  left = records plain_head (drop (k + 1) blocks) ++ stands.laid_out.rest

  split : records plain_head blocks ++ stands.laid_out.rest ≡ records plain_head (take k blocks) ++ (1 ∷ (plain_head (length block) ++ (block ++ left)))
  split =
      ap (λ (l : List (List ℕ)). records plain_head l ++ stands.laid_out.rest) (sym (take-append-drop k blocks) ∙ ap (λ (l : List (List ℕ)). take k blocks ++ l) (drop_more blocks k [] few))
      ∙ records-append plain_head (take k blocks) (block ∷ drop (k + 1) blocks) stands.laid_out.rest
      ∙ ap (λ (l : List ℕ). records plain_head (take k blocks) ++ l) (one_front plain_head block (records plain_head (drop (k + 1) blocks)) stands.laid_out.rest)

  at_place : drop place bytes ≡ 1 ∷ (plain_head (length block) ++ (block ++ left))
  at_place =
      let before = header key ++ records plain_head (take k blocks) in
      let rest = 1 ∷ (plain_head (length block) ++ (block ++ left)) in
      let whole : bytes ≡ before ++ rest = stands.laid_out.bytes ∙ ap (λ (l : List ℕ). header key ++ l) split ∙ sym (append_assoc (header key) (records plain_head (take k blocks)) rest) in
      ap (λ (l : List ℕ). drop place l) whole ∙ drop_at before rest place (omega (arith, at, length-append (header key) (records plain_head (take k blocks)), length-header key stands.key_size))

  pub record_there : IsRecord (drop place bytes) (length block)
  record_there = record { block = block; left = left; bytes = at_place; is_block = All-get_or IsBlock blocks k [] few stands.laid_out.are_blocks.each; size_is = refl }

  pub read_is_block : (room : List ℕ) (count : ℕ) → length room ≡ length block → count ≡ min (length room) (length bytes - (place + 5))
      → take count room ≡ take count (drop (place + 5) bytes) → take count room ≡ block
  read_is_block room count = block_read bytes room block left place count at_place

  pub next_place : place + (5 + length block) ≡ 41 + length (records plain_head (take (k + 1) blocks))
  next_place = omega (arith, at, ap (λ (l : List (List ℕ)). length (records plain_head l)) (take_more blocks k [] few), length-records_push plain_head 4 (λ n. refl) (take k blocks) block)
