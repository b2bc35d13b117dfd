-- States that stay where the pins stay.
use Rattle.std.proofs.Common.{◌≡◌, ℕ, zero, suc, ◌+◌, ◌<◌, refl, sym, ◌∙◌, ap, subst, ◌↔◌, List, length, arith}
use Rattle.tern_core.specs.declared.tern.Tern.{Tern}
use Rattle.tern_core.specs.declared.tern.Tern.TheVariants.{Zero, One, Unknown}
use Rattle.tern_core.specs.Values.{common_of}
use Rattle.tern_core.specs.Order.{IsAtMost}
use Rattle.liberty_source.specs.declared.FfText.{FfText}
use Rattle.liberty_source.specs.declared.LatchText.{LatchText}
use Rattle.liberty_source.specs.declared.RowsText.{RowsText}
use Rattle.liberty_source.specs.declared.LibertyCell.{LibertyCell}
use Rattle.liberty_function.specs.declared.program.Source.{Source}
use Rattle.liberty_function.specs.Sources.{value_at}
use Rattle.liberty_meaning.specs.declared.pair.Pair.{Pair}
use Rattle.liberty_meaning.specs.declared.pairs.Kind.TheVariants.{Clocked}
use Rattle.liberty_meaning.specs.declared.table.Row.{Row}
use Rattle.liberty_meaning.specs.declared.behaviour.Behaviour.{Behaviour}
use Rattle.liberty_meaning.specs.Names.{names_of}
use Rattle.liberty_meaning.specs.Meaning.{values_of}
use Rattle.liberty_meaning.specs.Pairs.{pair, taken_in, common_pair, clocked_pair, latched_pair, controlled_pair, both_at}
use Rattle.liberty_meaning.specs.PairMeaning.{Functions, pair_of, pair_after}
use Rattle.liberty_meaning.specs.Next.{pair_value}
use Rattle.liberty_meaning.specs.Behaviour.{next_value_of, next_state, values_from, IsAtRest, after_times}
use Rattle.liberty_meaning.specs.Groups.{IsStateless, IsFlipFlop, IsLatched, IsTable}
use Rattle.liberty_meaning.specs.Known.{IsPairAtMost}
use Rattle.liberty_meaning.specs.Rest.{IsKept, FlipFlopRests, LatchRests, TableRests}
use Rattle.liberty_meaning.proofs.Meanings.{stateless_answers, flip_flop_answers, latch_answers, table_answers}
use Rattle.liberty_meaning.proofs.Writing.{values_are}

pub rest_lasts : (b : Behaviour) (pins state : List Tern) → IsAtRest b pins state → (n : ℕ) → after_times b pins n state ≡ state
rest_lasts b pins state h zero = refl
rest_lasts b pins state h (suc n) = ap (λ s. next_state b pins pins s) (rest_lasts b pins state h n) ∙ h

-- a list of values has them
value_of-values_from : (f : ℕ → Tern) (j n k : ℕ) → k < n → value_at (values_from f j n) k ≡ f (j + k)
unfolding values_from
value_of-values_from f j zero k h = absurd (omega arith)
value_of-values_from f j (suc n) zero h = let e : j ≡ j + 0 = omega arith in ap f e
value_of-values_from f j (suc n) (suc k) h = let e : (j + 1) + k ≡ j + suc k = omega arith in value_of-values_from f (j + 1) n k (omega arith) ∙ ap f e

-- value by value
rests_by : (b : Behaviour) (pins state : List Tern) → IsAtRest b pins state ↔ ((k : ℕ) → k < length state → next_value_of b pins pins state k ≡ value_at state k)
rests_by b pins state = (
  λ h k l. let e : 0 + k ≡ k = omega arith in ap (next_value_of b pins pins state) (sym e) ∙ sym (value_of-values_from (λ j. next_value_of b pins pins state j) 0 (length state) k l) ∙ ap (λ s. value_at s k) h,
  λ h. sym (values_are state (λ j. next_value_of b pins pins state j) 0 (λ k l. let e : 0 + k ≡ k = omega arith in sym (h k l) ∙ ap (next_value_of b pins pins state) (sym e))),
)

pub stateless_rests : (cell : LibertyCell) (b : Behaviour) → IsStateless cell b → (pins state : List Tern) → IsAtRest b pins state
stateless_rests cell b m pins state = (rests_by b pins state).1 (λ k l. stateless_answers cell b m pins pins state k)

pub table_rests : (cell : LibertyCell) (r : RowsText) (columns : List Source) (rows : List Row) (b : Behaviour) → IsTable cell r columns rows b → (pins state : List Tern) → TableRests columns rows b pins state
table_rests cell r columns rows b m pins state = (
  λ h k l. sym (table_answers cell r columns rows b m pins pins state k) ∙ (rests_by b pins state).0 h k l,
  λ h. (rests_by b pins state).1 (λ k l. table_answers cell r columns rows b m pins pins state k ∙ h k l),
)

pair_same : (p q : Pair) → p.first ≡ q.first → p.second ≡ q.second → p ≡ q
pair_same p q h k = ap (λ a. pair a p.second) h ∙ ap (λ a. pair q.first a) k

-- a state of two values is at rest where its pair is
pair_rests : (b : Behaviour) (pins state : List Tern) (p : Pair) → length state ≡ 2 → ((k : ℕ) → next_value_of b pins pins state k ≡ pair_value p k (value_at state k)) → IsAtRest b pins state ↔ (p ≡ pair_of state)
pair_rests b pins state p two answers = (
  λ h. pair_same p (pair_of state) (sym (answers 0) ∙ (rests_by b pins state).0 h 0 (omega (arith, two))) (sym (answers 1) ∙ (rests_by b pins state).0 h 1 (omega (arith, two))),
  λ h. (rests_by b pins state).1 (λ k l. answers k ∙ ap (λ q. pair_value q k (value_at state k)) h ∙ kept state k (omega (arith, two))),
) where
  kept : (s : List Tern) (k : ℕ) → k < 2 → pair_value (pair_of s) k (value_at s k) ≡ value_at s k
  kept s zero h = refl
  kept s (suc zero) h = refl
  kept s (suc (suc k)) h = absurd (omega arith)

-- without an edge the old pair stays
no_edge : (c a : Tern) (p : Pair) → clocked_pair c c a p ≡ p
no_edge Zero a p = refl
no_edge One a p = refl
no_edge Unknown a p = refl

along : {A B C : Type 0} → A ↔ B → B ↔ C → A ↔ C
along f g = (λ a. g.0 (f.0 a), λ c. f.1 (g.1 c))

turned : {X : Type 0} (a b : X) → (a ≡ b) ↔ (b ≡ a)
turned a b = (λ h. sym h, λ h. sym h)

same_as : {X : Type 0} (a b c : X) → a ≡ b → (a ≡ c) ↔ (b ≡ c)
same_as a b c e = (λ h. sym e ∙ h, λ h. e ∙ h)

pub flip_flop_rests : (cell : LibertyCell) (ff : FfText) (fs : Functions) (b : Behaviour) → IsFlipFlop cell ff fs b → (pins state : List Tern) → length state ≡ 2 → FlipFlopRests (names_of cell) fs ff.both b pins state
flip_flop_rests cell ff fs b m pins state two =
    let c = values_of (names_of cell) fs.clear pins state in
    let s = values_of (names_of cell) fs.preset pins state in
    let p = pair_of state in
    let k = controlled_pair c s (both_at ff.both 0) (both_at ff.both 1) p p in
    let e : pair_after Clocked ff.both (names_of cell) fs pins pins state ≡ k = ap (λ q. controlled_pair c s (both_at ff.both 0) (both_at ff.both 1) p q) (no_edge (values_of (names_of cell) fs.control pins state) (values_of (names_of cell) fs.value pins state) p) in
    let x : IsAtRest b pins state ↔ IsKept c s ff.both p p = along (pair_rests b pins state _ two (λ n. flip_flop_answers cell ff fs b m pins pins state n)) (same_as _ k p e) in
    record {
      exactly = x;
      uncontrolled = λ h i. x.1 (subst (λ u. IsKept u s ff.both p p) (sym h) (subst (λ u. IsKept Zero u ff.both p p) (sym i) refl));
      cleared = λ h i. along x (along (same_as k (pair Zero One) p (subst (λ u. controlled_pair u s (both_at ff.both 0) (both_at ff.both 1) p p ≡ pair Zero One) (sym h) (subst (λ u. controlled_pair One u (both_at ff.both 0) (both_at ff.both 1) p p ≡ pair Zero One) (sym i) refl))) (turned (pair Zero One) p));
      preset = λ h i. along x (along (same_as k (pair One Zero) p (subst (λ u. controlled_pair u s (both_at ff.both 0) (both_at ff.both 1) p p ≡ pair One Zero) (sym h) (subst (λ u. controlled_pair Zero u (both_at ff.both 0) (both_at ff.both 1) p p ≡ pair One Zero) (sym i) refl))) (turned (pair One Zero) p));
    }

-- a value that is common to itself and another one
common_is : (a b : Tern) → (common_of a b ≡ b) ↔ IsAtMost b a
common_is Zero Zero = (λ h. refl, λ h. refl)
common_is Zero One = (λ h. absurd (cc), λ h. absurd (cc))
common_is Zero Unknown = (λ h. tt, λ h. refl)
common_is One Zero = (λ h. absurd (cc), λ h. absurd (cc))
common_is One One = (λ h. refl, λ h. refl)
common_is One Unknown = (λ h. tt, λ h. refl)
common_is Unknown Zero = (λ h. absurd (cc), λ h. absurd (cc))
common_is Unknown One = (λ h. absurd (cc), λ h. absurd (cc))
common_is Unknown Unknown = (λ h. tt, λ h. refl)

common_pair_is : (p q : Pair) → (common_pair p q ≡ q) ↔ IsPairAtMost q p
common_pair_is p q = (
  λ h. ((common_is p.first q.first).0 (ap (λ (r : Pair). r.first) h), (common_is p.second q.second).0 (ap (λ (r : Pair). r.second) h)),
  λ h. pair_same (common_pair p q) q ((common_is p.first q.first).1 h.0) ((common_is p.second q.second).1 h.1),
)

pub latch_rests : (cell : LibertyCell) (latch : LatchText) (fs : Functions) (b : Behaviour) → IsLatched cell latch fs b → (pins state : List Tern) → length state ≡ 2 → LatchRests (names_of cell) fs latch.both b pins state
latch_rests cell latch fs b m pins state two =
    let c = values_of (names_of cell) fs.clear pins state in
    let s = values_of (names_of cell) fs.preset pins state in
    let e = values_of (names_of cell) fs.control pins state in
    let d = values_of (names_of cell) fs.value pins state in
    let p = pair_of state in
    let x : IsAtRest b pins state ↔ IsKept c s latch.both p (latched_pair e d p) = pair_rests b pins state _ two (λ n. latch_answers cell latch fs b m pins pins state n) in
    let y : (t : Tern) → c ≡ Zero → s ≡ Zero → e ≡ t → IsAtRest b pins state ↔ (latched_pair t d p ≡ p) =
    λ t h i j. along x (same_as (controlled_pair c s (both_at latch.both 0) (both_at latch.both 1) p (latched_pair e d p)) (latched_pair t d p) p
    (subst (λ u. controlled_pair u s (both_at latch.both 0) (both_at latch.both 1) p (latched_pair e d p) ≡ latched_pair t d p) (sym h)
    (subst (λ u. controlled_pair Zero u (both_at latch.both 0) (both_at latch.both 1) p (latched_pair e d p) ≡ latched_pair t d p) (sym i)
    (subst (λ u. controlled_pair Zero Zero (both_at latch.both 0) (both_at latch.both 1) p (latched_pair u d p) ≡ latched_pair t d p) (sym j) refl)))) in
    record {
      exactly = x;
      closed = λ h i j. (y Zero h i j).1 refl;
      opened = λ h i j. along (y One h i j) (turned (taken_in d) p);
      unknown = λ h i j. along (y Unknown h i j) (common_pair_is (taken_in d) p);
    }
