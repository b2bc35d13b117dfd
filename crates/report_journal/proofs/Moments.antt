-- How the images of one call come from those of another.
use Rattle.std.proofs.Common.{◌≡◌, inl, inr, ⊎_elim, ℕ, List, Option, Some, None, refl, ◌∙◌, arith, rules}
use Rattle.std.specs.Prelude.{IsTrue, is_some}
use Rattle.desk_ports.specs.Disk.{Adds, Untouched}

module _ {D : Type 0} (moment : D → ℕ) (image_since : D → ℕ → List ℕ → Type 0) where
  pub adds_weaker : (old new : D) (P Q : List ℕ → Type 0) → Adds moment image_since old new P → ((c : List ℕ) → P c → Q c) → Adds moment image_since old new Q
  adds_weaker old new P Q adds weaker = record {
    later = adds.later;
    comes = λ t c le since. ⊎_elim (λ was. inl was) (λ p. inr (weaker c p)) (adds.comes t c le since);
    stays = adds.stays;
  }

  pub adds_then : (old mid new : D) (P Q R : List ℕ → Type 0) → Adds moment image_since old mid P → Adds moment image_since mid new Q
      → ((c : List ℕ) → P c → R c) → ((c : List ℕ) → Q c → R c) → Adds moment image_since old new R
  adds_then old mid new P Q R first second from_p from_q = record {
    later = omega (arith, first.later, second.later);
    comes = λ t c le since. ⊎_elim (λ was. ⊎_elim (λ before. inl before) (λ p. inr (from_p c p)) (first.comes t c le was)) (λ q. inr (from_q c q)) (second.comes t c (omega (arith, le, first.later)) since);
    stays = λ t c le was. second.stays t c (omega (arith, le, first.later)) (first.stays t c le was);
  }

  module _ (reads : D → Option (List ℕ)) (image : D → List ℕ → Type 0) where
    pub untouched_here : (disk : D) → Untouched reads image moment image_since disk disk
    untouched_here disk = record {
      bytes = refl;
      no_other = λ c is. is;
      no_fewer = λ c is. is;
      time = record { later = omega arith; comes = λ t c le was. inl was; stays = λ t c le was. was };
    }

    pub untouched_then : (old mid new : D) → Untouched reads image moment image_since old mid → Untouched reads image moment image_since mid new → Untouched reads image moment image_since old new
    untouched_then old mid new a b = record {
      bytes = b.bytes ∙ a.bytes;
      no_other = λ c is. a.no_other c (b.no_other c is);
      no_fewer = λ c is. b.no_fewer c (a.no_fewer c is);
      time = adds_then old mid new (image old) (image mid) (image old) a.time b.time (λ c is. is) a.no_other;
    }

-- a disk that tells told before
pub told_before : (now before : Option (List ℕ)) → is_some now ≡ is_some before → (bytes : List ℕ) → now ≡ Some bytes → (told : List ℕ) × (before ≡ Some told)
told_before None before same bytes is = absurd (cc)
told_before (Some x) None same bytes is = absurd (cc)
told_before (Some x) (Some told) same bytes is = (told, refl)

pub tells_before : (now before : Option (List ℕ)) → is_some now ≡ is_some before → (bytes : List ℕ) → now ≡ Some bytes → IsTrue (is_some before)
tells_before None before same bytes is = absurd (cc)
tells_before (Some x) None same bytes is = absurd (cc)
tells_before (Some x) (Some told) same bytes is = search rules

-- a disk that tells has bytes
pub told_now : (reads : Option (List ℕ)) → IsTrue (is_some reads) → (bytes : List ℕ) × (reads ≡ Some bytes)
told_now None tells = absurd (search rules)
told_now (Some bytes) tells = (bytes, refl)
