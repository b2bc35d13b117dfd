-- The six names of a transistor, one after the other.
use Rattle.std.proofs.Common.{◌≡◌, ◌+◌, ℕ, suc, arith, List, ◌∷◌, Some, None, refl}
use Rattle.text_scan.specs.declared.limits.Limits.{Limits}
use Rattle.cdl_cards.specs.Words.{PlacedWord}
use Rattle.cdl_cards.specs.Left.{word_of}
use Rattle.cdl_cards.specs.declared.line.Word.{Word}
use Rattle.cdl_reader.specs.Words.{fault_among, fault_of}
use Rattle.cdl_reader.specs.Parts.{transistor_of}
use Rattle.cdl_reader.specs.Steps.{IsFault}
use Rattle.cdl_reader.specs.declared.names.WordFault.{WordFault}
use Rattle.cdl_reader.proofs.NextNames.{fault_first, name_there}

-- a name was read from the front of these words
abbrev pub Read : Limits → Word → List PlacedWord → List PlacedWord → Type 0
Read limits x old new = (old ≡ word_of x ∷ new) × (fault_of limits (word_of x) ≡ None)

module _ (limits : Limits) (first : PlacedWord) where
  pub first_along : (c0 : List PlacedWord) → fault_of limits first ≡ None → fault_among limits first 6 (first ∷ c0) ≡ fault_among limits first 5 c0
  first_along c0 h = name_there limits first 5 (first ∷ c0) c0 first refl h

  pub first_fault_so : (f : WordFault) (c0 : List PlacedWord) → IsFault f (fault_of limits first) → IsFault f (fault_among limits first 6 (first ∷ c0))
  unfolding fault_among
  first_fault_so f c0 h = fault_first f (fault_of limits first) (fault_among limits first 5 c0) h

  pub none_left : (ws : List PlacedWord) → fault_among limits first 0 ws ≡ None
  unfolding fault_among
  none_left ws = refl

  pub along : (n : ℕ) (x : Word) (old new : List PlacedWord) → Read limits x old new → fault_among limits first (n + 1) old ≡ fault_among limits first n new
  along n x old new h = let e : n + 1 ≡ suc n = omega arith in rw e (name_there limits first n old new (word_of x) h.0 h.1)

pub whole : (limits : Limits) (a : PlacedWord) (f : PlacedWord) (w1 w2 w3 w4 w5 : Word) (c0 c1 c2 c3 c4 c5 : List PlacedWord) → a ≡ f → Read limits w1 c0 c1 → Read limits w2 c1 c2 → Read limits w3 c2 c3 → Read limits w4 c3 c4 → Read limits w5 c4 c5
    → transistor_of (f ∷ c0) ≡ Some (record { name = a.bytes; drain = w1.bytes.now; gate = w2.bytes.now; source = w3.bytes.now; model = w5.bytes.now })
whole limits a f w1 w2 w3 w4 w5 c0 c1 c2 c3 c4 c5 e h1 h2 h3 h4 h5 = rw (h1.0, h2.0, h3.0, h4.0, h5.0, e) refl
