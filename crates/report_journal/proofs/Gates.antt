-- What the first five bytes at a gate's place say, and the one record that may stand there.
use Rattle.std.proofs.Common.{◌≡◌, ◌⊎◌, inr, ⊎_elim, ℕ, zero, suc, ◌+◌, ◌*◌, ◌≤◌, ◌<◌, min, List, [], ◌∷◌, ◌++◌, length, get_or, take, drop, refl, sym, ◌∙◌, ap, subst, arith, length-append, length-drop, take-append-drop}
use Rattle.std.proofs.lemmas.List.{take_all, length-take-le}
use Rattle.std.proofs.lemmas.Nat.{be_bytes_4, from_be_bytes-to_be_bytes_4}
use Rattle.std.specs.Int.{w32, from_be_bytes}
use Rattle.report_journal.specs.Image.{plain_head}
use Rattle.report_journal.specs.Open.{IsWhole, NoRecord}
use Rattle.report_journal.specs.Steps.{IsRecord}

-- two whole records that stand at one place have one size, and so are one
pub one_size : (a b x y : List ℕ) → length a ≤ 1048576 → length b ≤ 1048576 → plain_head (length a) ++ (a ++ x) ≡ plain_head (length b) ++ (b ++ y) → length a ≡ length b
one_size a b x y small_a small_b same =
    let heads : plain_head (length a) ≡ plain_head (length b) = cc (same) in
    sym (from_be_bytes-to_be_bytes_4 (length a) (omega (arith, small_a))) ∙ ap (λ (l : List ℕ). from_be_bytes w32 l) heads ∙ from_be_bytes-to_be_bytes_4 (length b) (omega (arith, small_b))

five : (room : List ℕ) → length room ≡ 5 → room ≡ get_or room 0 0 ∷ get_or room 1 0 ∷ get_or room 2 0 ∷ get_or room 3 0 ∷ get_or room 4 0 ∷ []
five [] is = absurd (omega arith)
five (a ∷ []) is = absurd (omega arith)
five (a ∷ b ∷ []) is = absurd (omega arith)
five (a ∷ b ∷ c ∷ []) is = absurd (omega arith)
five (a ∷ b ∷ c ∷ d ∷ []) is = absurd (omega arith)
five (a ∷ b ∷ c ∷ d ∷ e ∷ []) is = refl
five (a ∷ b ∷ c ∷ d ∷ e ∷ x ∷ more) is = absurd (omega arith)

pub four_small : (a b c d : ℕ) → a < 256 → b < 256 → c < 256 → d < 256 → (i : ℕ) → get_or (a ∷ b ∷ c ∷ d ∷ []) i 0 < 256
four_small a b c d ha hb hc hd zero = ha
four_small a b c d ha hb hc hd (suc zero) = hb
four_small a b c d ha hb hc hd (suc (suc zero)) = hc
four_small a b c d ha hb hc hd (suc (suc (suc zero))) = hd
four_small a b c d ha hb hc hd (suc (suc (suc (suc i)))) = omega arith

module _ (room rest : List ℕ) (count size : ℕ) (is_5 : length room ≡ 5) (bytes : (i : ℕ) → get_or room i 0 < 256) (read : count ≡ min 5 (length rest)) (all : 5 ≤ count) (same : take count room ≡ take count rest)
    (gate : get_or room 0 0 ≡ 1) (value : size ≡ get_or room 1 0 * 16777216 + get_or room 2 0 * 65536 + get_or room 3 0 * 256 + get_or room 4 0) where
  abbrev head_bytes : List ℕ
  head_bytes = get_or room 1 0 ∷ get_or room 2 0 ∷ get_or room 3 0 ∷ get_or room 4 0 ∷ []

  front_is : take 5 rest ≡ 1 ∷ head_bytes
  front_is =
      let five_read : count ≡ 5 = omega (arith, read, all) in
      let taken : take 5 room ≡ take 5 rest = subst (λ (m : ℕ). take m room ≡ take m rest) five_read same in
      sym taken ∙ take_all 5 room (omega (arith, is_5)) ∙ five room is_5 ∙ ap (λ (g : ℕ). g ∷ head_bytes) gate

  rest_is : rest ≡ 1 ∷ (head_bytes ++ drop 5 rest)
  rest_is = sym (take-append-drop 5 rest) ∙ ap (λ (l : List ℕ). l ++ drop 5 rest) front_is

  decodes : size ≡ from_be_bytes w32 head_bytes
  decodes = omega (arith, value)

  encodes : plain_head size ≡ head_bytes
  encodes = be_bytes_4 head_bytes size refl (four_small (get_or room 1 0) (get_or room 2 0) (get_or room 3 0) (get_or room 4 0) (bytes 1) (bytes 2) (bytes 3) (bytes 4)) decodes

  pub is_record : 0 < size → size ≤ 1048576 → 5 + size ≤ length rest → IsRecord rest size
  is_record some small fits =
      let body = take size (drop 5 rest) in
      let left = drop size (drop 5 rest) in
      let long : length body ≡ size = length-take-le size (drop 5 rest) (omega (arith, length-drop 5 rest, fits)) in
      record {
        block = body;
        left = left;
        bytes = rest_is ∙ ap (λ (l : List ℕ). 1 ∷ (head_bytes ++ l)) (sym (take-append-drop size (drop 5 rest)))
            ∙ ap (λ (l : List ℕ). 1 ∷ (l ++ (body ++ left))) (sym encodes ∙ ap plain_head (sym long));
        is_block = (omega (arith, long, some), omega (arith, long, small));
        size_is = sym long;
      }

  pub no_record : (size ≡ 0) ⊎ ((1048576 < size) ⊎ (length rest < 5 + size)) → NoRecord plain_head rest
  no_record why = inr (head_bytes ++ drop 5 rest, rest_is, none)
    where
      none : IsWhole plain_head (head_bytes ++ drop 5 rest) → ⊥
      none w =
          let heads : head_bytes ≡ plain_head (length w.block) = cc (w.bytes) in
          let long : size ≡ length w.block = decodes ∙ ap (λ (l : List ℕ). from_be_bytes w32 l) heads ∙ from_be_bytes-to_be_bytes_4 (length w.block) (omega (arith, w.is_block.1)) in
          let total : length rest ≡ 5 + (length w.block + length w.rest) = omega (arith, ap length rest_is, ap length w.bytes, length-append w.block w.rest) in
          ⊎_elim (λ empty. omega (arith, empty, long, w.is_block.0)) (λ more. ⊎_elim (λ big. omega (arith, big, long, w.is_block.1)) (λ cut. omega (arith, cut, long, total)) more) why
