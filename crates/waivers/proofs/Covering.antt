-- The first waiver that covers is the first of four kinds.
use Rattle.std.proofs.Common.{◌≡◌, ◌≤◌, ◌+◌, ℕ, Bool, true, false, cond, List, [], ◌∷◌, Option, Some, None, refl, ap, ◌∙◌, arith}
use Rattle.std.specs.Prelude.{◌&&◌, ◌||◌, ℤ}
use Rattle.std.specs.List.{position_from}
use Rattle.std.specs.Int.Signed.{le_z}
use Rattle.std.specs.Str.{bytes_eq}
use Rattle.verdict_text.specs.Words.{code_word}
use Rattle.verdict_text.specs.declared.finding.Finding.{Finding}
use Rattle.waiver_source.specs.Places.{first_place, is_of}
use Rattle.waiver_source.specs.Waivers.{is_star}
use Rattle.waiver_source.specs.declared.waiver.Waiver.{Waiver}
use Rattle.waivers.specs.Cover.{covers, earlier, is_for_cell, is_for_pin, pin_word, star}

-- ---- tests

either_and : (a b x : Bool) → ((a || b) && x) ≡ ((b && x) || (a && x))
either_and true true true = refl
either_and true true false = refl
either_and true false x = refl
either_and false true true = refl
either_and false true false = refl
either_and false false x = refl

and_either : (c y z : Bool) → (c && (y || z)) ≡ ((c && y) || (c && z))
and_either true y z = refl
and_either false y z = refl

four : (a b c d e f : Bool)
    → ((a || b) && (c && ((d || e) && f)))
    ≡ (((b && (c && (e && f))) || (b && (c && (d && f)))) || ((a && (c && (e && f))) || (a && (c && (d && f)))))
four a b c d e f =
    let y = c && (e && f) in
    let z = c && (d && f) in
    let inner : (c && ((d || e) && f)) ≡ (y || z) = ap (λ (t : Bool). c && t) (either_and d e f) ∙ and_either c (e && f) (d && f) in
    ap (λ (t : Bool). (a || b) && t) inner ∙ either_and a b (y || z)
    ∙ ap (λ (t : Bool). t || (a && (y || z))) (and_either b y z)
    ∙ ap (λ (t : Bool). ((b && y) || (b && z)) || t) (and_either a y z)

-- ---- places

abbrev IsFrom : ℕ → Option ℕ → Type 0
IsFrom n None = Unit {0}
IsFrom n (Some k) = n ≤ k

later_from : (n : ℕ) (b : Bool) (o : Option ℕ) → IsFrom (n + 1) o → IsFrom n (cond b (Some n) o)
later_from n true o h = omega arith
later_from n false None h = tt
later_from n false (Some k) h = omega (arith, h)

earlier_at : (n : ℕ) (b c : Bool) (o q : Option ℕ) → IsFrom (n + 1) o → IsFrom (n + 1) q
    → cond (b || c) (Some n) (earlier o q) ≡ earlier (cond b (Some n) o) (cond c (Some n) q)
earlier_at n true true o q h k = ap Some (omega arith)
earlier_at n true false o None h k = refl
earlier_at n true false o (Some j) h k = ap Some (omega (arith, k))
earlier_at n false true None q h k = refl
earlier_at n false true (Some j) q h k = ap Some (omega (arith, h))
earlier_at n false false o q h k = refl

module _ {X : Type 0} where
  from : (p : X → Bool) (n : ℕ) (xs : List X) → IsFrom n (position_from p n xs)
  from p n [] = tt
  from p n (x ∷ xs) = later_from n (p x) (position_from p (n + 1) xs) (from p (n + 1) xs)

  -- the first that passes one of two tests is the earlier of the first ones
  pub first_of_either : (p q : X → Bool) (n : ℕ) (xs : List X) → position_from (λ x. p x || q x) n xs ≡ earlier (position_from p n xs) (position_from q n xs)
  first_of_either p q n [] = refl
  first_of_either p q n (x ∷ xs) =
      ap (λ (o : Option ℕ). cond (p x || q x) (Some n) o) (first_of_either p q (n + 1) xs)
      ∙ earlier_at n (p x) (q x) (position_from p (n + 1) xs) (position_from q (n + 1) xs) (from p (n + 1) xs) (from q (n + 1) xs)

  -- equal tests find the same
  pub same_first : (p q : X → Bool) → ((x : X) → p x ≡ q x) → (n : ℕ) (xs : List X) → position_from p n xs ≡ position_from q n xs
  same_first p q e n [] = refl
  same_first p q e n (x ∷ xs) =
      ap (λ (b : Bool). cond b (Some n) (position_from p (n + 1) xs)) (e x) ∙ ap (λ (o : Option ℕ). cond (q x) (Some n) o) (same_first p q e (n + 1) xs)

-- ---- waivers

same_pin : (pin : Option (List ℕ)) (word : List ℕ) → is_for_pin pin word ≡ (is_star word || bytes_eq word (pin_word pin))
same_pin (Some pin) word = refl
same_pin None word = refl

abbrev kinds : List ℕ → ℤ → Finding → Waiver → Bool
kinds cell day f w =
    (is_of cell f.code (pin_word f.pin) day w || is_of cell f.code star day w)
    || (is_of star f.code (pin_word f.pin) day w || is_of star f.code star day w)

covers_one : (cell : List ℕ) (day : ℤ) (f : Finding) (w : Waiver) → covers cell day f w ≡ kinds cell day f w
covers_one cell day f w =
    ap (λ (t : Bool). is_for_cell cell w.cell && (bytes_eq (code_word w.code) (code_word f.code) && (t && le_z day w.last))) (same_pin f.pin w.pin)
    ∙ four (is_star w.cell) (bytes_eq w.cell cell) (bytes_eq (code_word w.code) (code_word f.code)) (is_star w.pin) (bytes_eq w.pin (pin_word f.pin)) (le_z day w.last)

pub first_cover : (waivers : List Waiver) (cell : List ℕ) (day : ℤ) (f : Finding)
    → position_from (covers cell day f) 0 waivers
    ≡ earlier (earlier (first_place waivers cell f.code (pin_word f.pin) day) (first_place waivers cell f.code star day))
    (earlier (first_place waivers star f.code (pin_word f.pin) day) (first_place waivers star f.code star day))
first_cover waivers cell day f =
    let pin = pin_word f.pin in
    let own = λ (w : Waiver). is_of cell f.code pin day w || is_of cell f.code star day w in
    let all = λ (w : Waiver). is_of star f.code pin day w || is_of star f.code star day w in
    same_first (covers cell day f) (kinds cell day f) (covers_one cell day f) 0 waivers
    ∙ first_of_either own all 0 waivers
    ∙ ap (λ (o : Option ℕ). earlier o (position_from all 0 waivers)) (first_of_either (is_of cell f.code pin day) (is_of cell f.code star day) 0 waivers)
    ∙ ap (λ (o : Option ℕ). earlier (earlier (first_place waivers cell f.code pin day) (first_place waivers cell f.code star day)) o)
    (first_of_either (is_of star f.code pin day) (is_of star f.code star day) 0 waivers)
