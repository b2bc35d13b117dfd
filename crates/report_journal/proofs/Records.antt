-- Records, one behind another.
use Rattle.std.proofs.Common.{◌≡◌, ◌⊎◌, inl, inr, ℕ, ◌+◌, ◌<◌, List, [], ◌∷◌, ◌++◌, length, refl, sym, ◌∙◌, ap, arith, append_assoc, length-append}
use Rattle.std.proofs.lemmas.List.{append-nil, length_push}
use Rattle.std.proofs.lemmas.List.Elements.{All-push}
use Rattle.std.proofs.lemmas.Bool.{cases_eq}
use Rattle.report_journal.specs.Image.{Head, header, records, IsBlock, AreBlocks, IsShut, IsLaidOut}

pub length-header : (key : List ℕ) → length key ≡ 32 → length (header key) ≡ 41
length-header key is = omega (arith, is)

module _ (head : Head) where
  -- what stands behind a list of records that begins with this one
  pub one_front : (block front rest : List ℕ) → (1 ∷ (head (length block) ++ (block ++ front))) ++ rest ≡ 1 ∷ (head (length block) ++ (block ++ (front ++ rest)))
  one_front block front rest =
      ap (λ (l : List ℕ). 1 ∷ l) (append_assoc (head (length block)) (block ++ front) rest ∙ ap (λ (l : List ℕ). head (length block) ++ l) (append_assoc block front rest))

  pub records-append : (xs ys : List (List ℕ)) (rest : List ℕ) → records head (xs ++ ys) ++ rest ≡ records head xs ++ (records head ys ++ rest)
  records-append [] ys rest = refl
  records-append (b ∷ xs) ys rest =
      one_front b (records head (xs ++ ys)) rest
      ∙ ap (λ (l : List ℕ). 1 ∷ (head (length b) ++ (b ++ l))) (records-append xs ys rest)
      ∙ sym (one_front b (records head xs) (records head ys ++ rest))

  pub records-push : (blocks : List (List ℕ)) (block rest : List ℕ)
      → records head (blocks ++ block ∷ []) ++ rest ≡ records head blocks ++ (1 ∷ (head (length block) ++ (block ++ rest)))
  records-push blocks block rest = records-append blocks (block ∷ []) rest ∙ ap (λ (l : List ℕ). records head blocks ++ l) (one_front block [] rest)

  pub length-records_push : (width : ℕ) (wide : (n : ℕ) → length (head n) ≡ width) (blocks : List (List ℕ)) (block : List ℕ)
      → length (records head (blocks ++ block ∷ [])) ≡ length (records head blocks) + (1 + width + length block)
  length-records_push width wide blocks block =
      let one : length (1 ∷ (head (length block) ++ (block ++ []))) ≡ 1 + width + length block =
      omega (arith, length-append (head (length block)) (block ++ []), length-append block [], wide (length block)) in
      let all : length (records head (blocks ++ block ∷ [])) ≡ length (records head blocks ++ (1 ∷ (head (length block) ++ (block ++ [])))) =
      ap length (sym (append-nil (records head (blocks ++ block ∷ []))) ∙ records-push blocks block []) in
      omega (arith, one, all, length-append (records head blocks) (1 ∷ (head (length block) ++ (block ++ []))))

  module _ (front : List ℕ) (blocks : List (List ℕ)) (block : List ℕ) (are_blocks : AreBlocks blocks) (is_block : IsBlock block) (few : length blocks < 4096) where
    -- a whole record behind an open gate counts
    pub laid_out_open : (Ends : List ℕ → Type 0) (rest image : List ℕ) → image ≡ front ++ (records head blocks ++ (1 ∷ (head (length block) ++ (block ++ rest)))) → Ends rest
        → IsLaidOut front head Ends image (blocks ++ block ∷ [])
    laid_out_open Ends rest image is ends = record {
      rest = rest;
      bytes = is ∙ ap (λ (l : List ℕ). front ++ l) (sym (records-push blocks block rest));
      ends = ends;
      are_blocks = record { each = All-push IsBlock blocks block are_blocks.each is_block; few = omega (arith, length_push blocks block, few) };
    }

    -- behind any gate it counts or it doesn't
    pub laid_out_any : (gate : ℕ) (rest image : List ℕ) → image ≡ front ++ (records head blocks ++ (gate ∷ (head (length block) ++ (block ++ rest)))) → IsShut rest
        → IsLaidOut front head IsShut image blocks ⊎ IsLaidOut front head IsShut image (blocks ++ block ∷ [])
    laid_out_any gate rest image is shut = elim (cases_eq gate 1) [
      | inl one ↦ inr (laid_out_open IsShut rest image (is ∙ ap (λ (g : ℕ). front ++ (records head blocks ++ (g ∷ (head (length block) ++ (block ++ rest))))) one) shut)
      | inr other ↦ inl (record {
        rest = gate ∷ (head (length block) ++ (block ++ rest));
        bytes = is;
        ends = record { gate = gate; behind = head (length block) ++ (block ++ rest); bytes = refl; shut = other };
        are_blocks = are_blocks;
      })
    ]
