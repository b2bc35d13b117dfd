-- The next name of a card.
use Rattle.std.proofs.Common.{◌≡◌, true, false, ℕ, suc, List, [], ◌∷◌, Option, Some, None, Result, Ok, Err, refl, sym, subst, ◌∙◌, ◌++◌, map, append_assoc}
use Rattle.std.proofs.lemmas.List.{append-nil}
use Rattle.std.specs.Result.{MatchResult}
use Rattle.text_scan.specs.declared.limits.Limits.{Limits}
use Rattle.cdl_cards.specs.Words.{PlacedWord}
use Rattle.cdl_cards.specs.Left.{word_of}
use Rattle.cdl_cards.specs.declared.line.Word.{Word}
use Rattle.cdl_reader.specs.Words.{Fault, first_of, fault_of, first_fault, fault_among, no_name, operands, has_equals}
use Rattle.cdl_reader.specs.Actions.{word_bytes}
use Rattle.cdl_reader.specs.Steps.{IsFault, IsNextName}
use Rattle.cdl_reader.specs.declared.names.WordFault.{WordFault}
use Rattle.cdl_reader.specs.declared.names.WordFault.TheVariants as faults

pub fault_along : (f : WordFault) (o p : Option Fault) → o ≡ p → IsFault f p → IsFault f o
fault_along f o p e h = subst (IsFault f) (sym e) h

-- a fault stays where more may follow
pub fault_first : (f : WordFault) (o p : Option Fault) → IsFault f o → IsFault f (first_of o p)
fault_first faults.NoMemory o p h = tt
fault_first faults.TooLong o p h = rw h refl
fault_first (faults.NoName w) o p h = rw h refl

module _ (limits : Limits) (first : PlacedWord) where
  pub none_there : (n : ℕ) (ws : List PlacedWord) → ws ≡ [] → fault_among limits first (suc n) ws ≡ Some (no_name first)
  unfolding fault_among
  none_there n ws e = rw e refl

  one_there : (n : ℕ) (ws us : List PlacedWord) (w : PlacedWord) → ws ≡ w ∷ us → fault_among limits first (suc n) ws ≡ first_of (fault_of limits w) (fault_among limits first n us)
  unfolding fault_among
  one_there n ws us w e = rw e refl

  pub name_there : (n : ℕ) (ws us : List PlacedWord) (w : PlacedWord) → ws ≡ w ∷ us → fault_of limits w ≡ None → fault_among limits first (suc n) ws ≡ fault_among limits first n us
  name_there n ws us w e h = one_there n ws us w e ∙ rw h refl

  pub next_is : (r : Result Word WordFault) (x : Word) (old new : List PlacedWord) → old ≡ word_of x ∷ new
      → MatchResult r (λ w. (word_of w ≡ word_of x) × (fault_of limits (word_of x) ≡ None)) (λ f. IsFault f (fault_of limits (word_of x)))
      → IsNextName limits first old new r
  next_is (Ok w) x old new e h = (rw h.0 e, rw h.0 h.1)
  next_is (Err f) x old new e h = λ n. fault_along f _ _ (one_there n old new (word_of x) e) (fault_first f _ _ h)

-- ---- words without =

pub operand_here : (ws us : List PlacedWord) (w : PlacedWord) → ws ≡ w ∷ us → has_equals w.bytes ≡ false → operands ws ≡ w ∷ operands us
unfolding operands
operand_here ws us w e h = rw (e, h) refl

pub operand_passed : (ws us : List PlacedWord) (w : PlacedWord) → ws ≡ w ∷ us → has_equals w.bytes ≡ true → operands us ≡ operands ws
unfolding operands
operand_passed ws us w e h = rw (e, h) refl

pub operands_none : (ws : List PlacedWord) → ws ≡ [] → operands ws ≡ []
unfolding operands
operands_none ws e = rw e refl

-- ---- faults of some words

module _ (limits : Limits) where
  one_fault : (ws us : List PlacedWord) (w : PlacedWord) → ws ≡ w ∷ us → first_fault limits ws ≡ first_of (fault_of limits w) (first_fault limits us)
  unfolding first_fault
  one_fault ws us w e = rw e refl

  pub fault_here : (f : WordFault) (all ws us : List PlacedWord) (w : PlacedWord) → first_fault limits ws ≡ first_fault limits all → ws ≡ w ∷ us → IsFault f (fault_of limits w) → IsFault f (first_fault limits all)
  fault_here f all ws us w a e h = fault_along f _ _ (sym a ∙ one_fault ws us w e) (fault_first f _ _ h)

  pub no_fault_here : (ws us : List PlacedWord) (w : PlacedWord) → ws ≡ w ∷ us → fault_of limits w ≡ None → first_fault limits us ≡ first_fault limits ws
  no_fault_here ws us w e h = sym (one_fault ws us w e ∙ rw h refl)

  pub no_faults : (ws : List PlacedWord) → ws ≡ [] → first_fault limits ws ≡ None
  unfolding first_fault
  no_faults ws e = rw e refl

-- a pin more
pub pins_kept : (old new : List (List ℕ)) (pin : List ℕ) (ws us : List PlacedWord) (w : PlacedWord) → new ≡ old ++ pin ∷ [] → pin ≡ word_bytes w → ws ≡ w ∷ us → new ++ map word_bytes us ≡ old ++ map word_bytes ws
pins_kept old new pin ws us w e f h = rw (e, f, h) (append_assoc old (w.bytes ∷ []) (map word_bytes us))

pub pins_all : (pins : List (List ℕ)) (ws all : List PlacedWord) → ws ≡ [] → pins ++ map word_bytes ws ≡ map word_bytes all → pins ≡ map word_bytes all
pins_all pins ws all e h = sym (append-nil pins) ∙ (rw e at h)
