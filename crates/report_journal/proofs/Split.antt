-- A write into bytes of two parts, at the place where the second begins.
use Rattle.std.proofs.Common.{◌≡◌, ℕ, ◌+◌, ◌≤◌, min, max, List, [], ◌∷◌, ◌++◌, length, take, drop, sym, ◌∙◌, ap, subst, arith, length-append, length-drop, take-append-drop}
use Rattle.std.proofs.lemmas.List.{take_at, drop_at, take_all, drop-drop, drop-take}
use Rattle.desk_ports.specs.Disk.{overwritten, Torn}

drop_on : (front rest : List ℕ) (k n : ℕ) → length front ≡ k → drop (k + n) (front ++ rest) ≡ drop n rest
drop_on front rest k n is = sym (drop-drop n k (front ++ rest)) ∙ ap (λ (l : List ℕ). drop n l) (drop_at front rest k is)

pub overwritten_at : (front rest piece : List ℕ) (k : ℕ) → length front ≡ k → overwritten (front ++ rest) k piece ≡ front ++ piece ++ drop (length piece) rest
overwritten_at front rest piece k is =
    ap (λ (l : List ℕ). l ++ piece ++ drop (k + length piece) (front ++ rest)) (take_at front rest k is)
    ∙ ap (λ (l : List ℕ). front ++ piece ++ l) (drop_on front rest k (length piece) is)

-- the first part stands, and the second is torn from its start
pub record TornBehind (front rest : List ℕ) (size : ℕ) (image : List ℕ) : Type 0 where
  pub left : List ℕ
  pub bytes : image ≡ front ++ left
  pub torn : Torn 0 size rest left

pub torn_behind : (front rest : List ℕ) (k size : ℕ) (image : List ℕ) → length front ≡ k → Torn k size (front ++ rest) image → TornBehind front rest size image
torn_behind front rest k size image is torn =
    let all : length (front ++ rest) ≡ k + length rest = omega (arith, length-append front rest) in
    let long : k + length rest ≤ length image = omega (arith, all, torn.no_shorter) in
    let most : length image ≤ max (k + length rest) (k + size) = omega (arith, all, torn.no_longer) in
    let low : min k (length (front ++ rest)) ≡ k = omega (arith, all) in
    let starts : take k image ≡ front = ap (λ (m : ℕ). take m image) (sym low) ∙ torn.before ∙ take_at front rest k is in
    let whole : image ≡ front ++ drop k image = sym (take-append-drop k image) ∙ ap (λ (l : List ℕ). l ++ drop k image) starts in
    let ends : drop size (take (length rest) (drop k image)) ≡ drop size rest =
    ap (λ (l : List ℕ). drop size l) (sym (drop-take k (length rest) image))
    ∙ drop-drop size k (take (k + length rest) image)
    ∙ ap (λ (m : ℕ). drop (k + size) (take m image)) (sym all)
    ∙ torn.after ∙ drop_on front rest k size is in
    let zero_add : 0 + size ≡ size = omega arith in
    let none : min 0 (length rest) ≡ 0 = omega arith in
    record {
      left = drop k image;
      bytes = whole;
      torn = record {
        before = ap (λ (m : ℕ). take m (drop k image)) none;
        after = subst (λ (m : ℕ). drop m (take (length rest) (drop k image)) ≡ drop m rest) (sym zero_add) ends;
        no_shorter = omega (arith, length-drop k image, long);
        no_longer = omega (arith, length-drop k image, most);
      };
    }

-- of a write of one byte only that byte isn't sure
pub one_torn : (byte : ℕ) (rest left : List ℕ) → Torn 0 1 (byte ∷ rest) left → (b : ℕ) × (left ≡ b ∷ rest)
one_torn byte rest [] torn = absurd (omega (arith, torn.no_shorter))
one_torn byte rest (b ∷ left) torn =
    let long : length left ≤ length rest = omega (arith, torn.no_longer) in
    (b, ap (λ (l : List ℕ). b ∷ l) (sym (take_all (length rest) left long) ∙ torn.after))
