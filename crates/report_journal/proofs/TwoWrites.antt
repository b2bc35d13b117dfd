-- The two writes of an append: the frame behind a shut gate, and the gate.
use Rattle.std.proofs.Common.{◌≡◌, ◌⊎◌, ℕ, ◌+◌, ◌≤◌, ◌<◌, max, List, [], ◌∷◌, ◌++◌, length, drop, refl, sym, ◌∙◌, ap, subst, arith, append_assoc, length-append, length-drop}
use Rattle.desk_ports.specs.Disk.{overwritten, Torn}
use Rattle.report_journal.specs.Image.{Head, records, IsBlock, IsShut, IsLaidOut}
use Rattle.report_journal.proofs.Split.{overwritten_at, torn_behind, one_torn}
use Rattle.report_journal.proofs.Records.{laid_out_open, laid_out_any}

-- an image with a list of blocks, and the frame of one more at the gate behind them
pub record Appending (front : List ℕ) (head : Head) (blocks : List (List ℕ)) (image : List ℕ) (place : ℕ) (block frame : List ℕ) : Type 0 where
  pub laid_out : IsLaidOut front head IsShut image blocks
  pub at : place ≡ length front + length (records head blocks)
  pub is_block : IsBlock block
  pub frame_is : frame ≡ head (length block) ++ (block ++ 0 ∷ [])
  pub few : length blocks < 4096

module _ (front : List ℕ) (head : Head) (blocks : List (List ℕ)) (image : List ℕ) (place : ℕ) (block frame : List ℕ) (a : Appending front head blocks image place block frame) where
  abbrev shut : IsShut a.laid_out.rest
  shut = a.laid_out.ends

  abbrev until_gate : List ℕ
  until_gate = front ++ records head blocks

  length-until_gate : length until_gate ≡ place
  length-until_gate = omega (arith, a.at, length-append front (records head blocks))

  abbrev with_gate : List ℕ
  with_gate = until_gate ++ shut.gate ∷ []

  length-with_gate : length with_gate ≡ place + 1
  length-with_gate = omega (arith, length-until_gate, length-append until_gate (shut.gate ∷ []))

  image_is : image ≡ with_gate ++ shut.behind
  image_is =
      a.laid_out.bytes ∙ ap (λ (l : List ℕ). front ++ (records head blocks ++ l)) shut.bytes
      ∙ sym (append_assoc front (records head blocks) (shut.gate ∷ shut.behind))
      ∙ sym (append_assoc until_gate (shut.gate ∷ []) shut.behind)

  -- the same behind the gate
  laid_out_as : (image gate : List ℕ) → image ≡ until_gate ++ gate → image ≡ front ++ (records head blocks ++ gate)
  laid_out_as image gate is = is ∙ append_assoc front (records head blocks) gate

  -- while the frame is written the blocks stand
  pub while_frame : (c : List ℕ) → Torn (place + 1) (length frame) image c → IsLaidOut front head IsShut c blocks
  while_frame c torn =
      let split = torn_behind with_gate shut.behind (place + 1) (length frame) c length-with_gate (subst (λ (l : List ℕ). Torn (place + 1) (length frame) l c) image_is torn) in
      record {
        rest = shut.gate ∷ split.left;
        bytes = laid_out_as c (shut.gate ∷ split.left) (split.bytes ∙ append_assoc until_gate (shut.gate ∷ []) split.left);
        ends = record { gate = shut.gate; behind = split.left; bytes = refl; shut = shut.shut };
        are_blocks = a.laid_out.are_blocks;
      }

  -- what stands behind the new record
  abbrev last : List ℕ
  last = 0 ∷ drop (length frame) shut.behind

  abbrev new_record : List ℕ
  new_record = head (length block) ++ (block ++ last)

  abbrev staged : List ℕ
  staged = overwritten image (place + 1) frame

  -- with the frame the record stands whole behind the gate
  staged_is : staged ≡ until_gate ++ (shut.gate ∷ new_record)
  staged_is =
      let rest = drop (length frame) shut.behind in
      ap (λ (l : List ℕ). overwritten l (place + 1) frame) image_is
      ∙ overwritten_at with_gate shut.behind frame (place + 1) length-with_gate
      ∙ append_assoc with_gate frame rest
      ∙ append_assoc until_gate (shut.gate ∷ []) (frame ++ rest)
      ∙ ap (λ (l : List ℕ). until_gate ++ (shut.gate ∷ (l ++ rest))) a.frame_is
      ∙ ap (λ (l : List ℕ). until_gate ++ (shut.gate ∷ l)) (append_assoc (head (length block)) (block ++ 0 ∷ []) rest ∙ ap (λ (l : List ℕ). head (length block) ++ l) (append_assoc block (0 ∷ []) rest))

  last_shut : IsShut last
  last_shut = record { gate = 0; behind = drop (length frame) shut.behind; bytes = refl; shut = omega arith }

  pub length-staged : length staged ≤ max (length image) (place + 1 + length frame)
  length-staged =
      let rest = drop (length frame) shut.behind in
      let is : staged ≡ with_gate ++ (frame ++ rest) =
      ap (λ (l : List ℕ). overwritten l (place + 1) frame) image_is ∙ overwritten_at with_gate shut.behind frame (place + 1) length-with_gate ∙ append_assoc with_gate frame rest in
      omega (arith, ap length is, ap length image_is, length-append with_gate (frame ++ rest), length-append frame rest, length-append with_gate shut.behind, length-with_gate, length-drop (length frame) shut.behind)

  pub place_within : place ≤ length staged
  place_within = omega (arith, ap length staged_is, length-append until_gate (shut.gate ∷ new_record), length-until_gate)

  pub place_before : place + 1 ≤ length image
  place_before = omega (arith, ap length image_is, length-append with_gate shut.behind, length-with_gate)

  -- while the gate is opened the new block counts or it doesn't
  pub while_gate : (c : List ℕ) → Torn place 1 staged c → IsLaidOut front head IsShut c blocks ⊎ IsLaidOut front head IsShut c (blocks ++ block ∷ [])
  while_gate c torn =
      let split = torn_behind until_gate (shut.gate ∷ new_record) place 1 c length-until_gate (subst (λ (l : List ℕ). Torn place 1 l c) staged_is torn) in
      let one = one_torn shut.gate new_record split.left split.torn in
      let is : c ≡ until_gate ++ (one.0 ∷ new_record) = split.bytes ∙ ap (λ (l : List ℕ). until_gate ++ l) one.1 in
      laid_out_any head front blocks block a.laid_out.are_blocks a.is_block a.few one.0 last c (laid_out_as c (one.0 ∷ new_record) is) last_shut

  abbrev done : List ℕ
  done = overwritten staged place (1 ∷ [])

  done_is : done ≡ until_gate ++ (1 ∷ new_record)
  done_is = ap (λ (l : List ℕ). overwritten l place (1 ∷ [])) staged_is ∙ overwritten_at until_gate (shut.gate ∷ new_record) (1 ∷ []) place length-until_gate ∙ append_assoc until_gate (1 ∷ []) new_record

  pub length-done : length done ≡ length staged
  length-done = omega (arith, ap length done_is, ap length staged_is, length-append until_gate (1 ∷ new_record), length-append until_gate (shut.gate ∷ new_record))

  pub laid_out_done : IsLaidOut front head IsShut done (blocks ++ block ∷ [])
  laid_out_done = laid_out_open head front blocks block a.laid_out.are_blocks a.is_block a.few IsShut last done (laid_out_as done (1 ∷ new_record) done_is) last_shut
