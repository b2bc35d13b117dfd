-- What becomes more known of the pins and the state keeps what was known of a cell.
use Rattle.std.proofs.Common.{◌≡◌, ℕ, zero, suc, ◌+◌, refl, sym, ap, subst, Bool, true, false, if◌then◌else◌, List, [], ◌∷◌, length, Option, Some, None, slice_get, ◌⊎◌, inl, inr, ◌==◌}
use Rattle.tern_core.specs.declared.tern.Tern.{Tern}
use Rattle.tern_core.specs.declared.tern.Tern.TheVariants.{Zero, One, Unknown}
use Rattle.tern_core.specs.Values.{common_of}
use Rattle.tern_core.specs.Order.{IsAtMost, AreAtMost}
use Rattle.tern_core.proofs.Lists.{same, through}
use Rattle.liberty_source.specs.declared.Both.{Both}
use Rattle.liberty_source.specs.declared.Both.TheVariants as says
use Rattle.liberty_source.specs.declared.FfText.{FfText}
use Rattle.liberty_source.specs.declared.LatchText.{LatchText}
use Rattle.liberty_source.specs.declared.RowsText.{RowsText}
use Rattle.liberty_source.specs.declared.LibertyCell.{LibertyCell}
use Rattle.liberty_source.specs.declared.LibertyPin.{LibertyPin}
use Rattle.liberty_function.specs.declared.program.Source.{Source}
use Rattle.liberty_function.specs.Function.{Function}
use Rattle.liberty_function.specs.Sources.{Named, value_at}
use Rattle.liberty_function.specs.Texts.{name_value}
use Rattle.liberty_function.proofs.Order.{not_more, common_more, value_more, function_more, name_more}
use Rattle.liberty_meaning.specs.declared.pair.Pair.{Pair}
use Rattle.liberty_meaning.specs.declared.pairs.Kind.TheVariants.{Clocked, Latched}
use Rattle.liberty_meaning.specs.declared.symbols.Symbol.{Symbol}
use Rattle.liberty_meaning.specs.declared.symbols.Symbol.TheVariants as symbol
use Rattle.liberty_meaning.specs.declared.table.Row.{Row}
use Rattle.liberty_meaning.specs.declared.behaviour.Behaviour.{Behaviour}
use Rattle.liberty_meaning.specs.Names.{names_of, nodes_of, output_pins}
use Rattle.liberty_meaning.specs.Meaning.{Valuation, values_of, IsOutputBy, output_text}
use Rattle.liberty_meaning.specs.Pairs.{taken_in, common_pair, clocked_pair, latched_pair, Outcomes, controlled, controlled_pair, both_value, both_at, chosen}
use Rattle.liberty_meaning.specs.PairMeaning.{Functions, pair_of, pair_after}
use Rattle.liberty_meaning.specs.Symbols.{next_value}
use Rattle.liberty_meaning.specs.Next.{pair_value, row_value, symbol_value}
use Rattle.liberty_meaning.specs.Behaviour.{output_value, next_value_of, next_state, values_from}
use Rattle.liberty_meaning.specs.Cell.{Means}
use Rattle.liberty_meaning.specs.Groups.{IsStateless, IsFlipFlop, IsLatched, IsTable}
use Rattle.liberty_meaning.specs.Known.{IsPairAtMost, OutputKeeps, NextKeeps, may_rise, StaysFlat, ClockedKeeps, TableKeeps}
use Rattle.liberty_meaning.proofs.Controls.{chosen_twice}
use Rattle.liberty_meaning.proofs.Meanings.{stateless_answers, flip_flop_answers, latch_answers, table_answers}

common_left : (a b : Tern) → IsAtMost (common_of a b) a
common_left Zero Zero = refl
common_left Zero One = tt
common_left Zero Unknown = tt
common_left One Zero = tt
common_left One One = refl
common_left One Unknown = tt
common_left Unknown b = tt

common_right : (a b : Tern) → IsAtMost (common_of a b) b
common_right Zero Zero = refl
common_right Zero One = tt
common_right Zero Unknown = tt
common_right One Zero = tt
common_right One One = refl
common_right One Unknown = tt
common_right Unknown b = tt

-- pairs
pair_through : (p q r : Pair) → IsPairAtMost p q → IsPairAtMost q r → IsPairAtMost p r
pair_through p q r h k = (through p.first q.first r.first h.0 k.0, through p.second q.second r.second h.1 k.1)

taken_more : (a b : Tern) → IsAtMost a b → IsPairAtMost (taken_in a) (taken_in b)
taken_more a b h = (h, not_more a b h)

both_more : (p q r s : Pair) → IsPairAtMost p q → IsPairAtMost r s → IsPairAtMost (common_pair p r) (common_pair q s)
both_more p q r s h k = (common_more p.first q.first r.first s.first h.0 k.0, common_more p.second q.second r.second s.second h.1 k.1)

left_more : (p q r : Pair) → IsPairAtMost p q → IsPairAtMost (common_pair p r) q
left_more p q r h = (through _ p.first q.first (common_left p.first r.first) h.0, through _ p.second q.second (common_left p.second r.second) h.1)

right_more : (p q r : Pair) → IsPairAtMost r q → IsPairAtMost (common_pair p r) q
right_more p q r h = (through _ r.first q.first (common_right p.first r.first) h.0, through _ r.second q.second (common_right p.second r.second) h.1)

module _ (a b : Tern) (p q : Pair) (h : IsAtMost a b) (k : IsPairAtMost p q) where
  latched_more : (e f : Tern) → IsAtMost e f → IsPairAtMost (latched_pair e a p) (latched_pair f b q)
  latched_more Zero f i = subst (λ g. IsPairAtMost p (latched_pair g b q)) i k
  latched_more One f i = subst (λ g. IsPairAtMost (taken_in a) (latched_pair g b q)) i (taken_more a b h)
  latched_more Unknown Zero i = right_more (taken_in a) q p k
  latched_more Unknown One i = left_more (taken_in a) (taken_in b) p (taken_more a b h)
  latched_more Unknown Unknown i = both_more (taken_in a) (taken_in b) p q (taken_more a b h) k

  -- a clock that has been 0 before
  from_zero : (c d : Tern) → IsAtMost c d → IsPairAtMost (clocked_pair Zero c a p) (clocked_pair Zero d b q)
  from_zero Zero d i = subst (λ g. IsPairAtMost p (clocked_pair Zero g b q)) i k
  from_zero One d i = subst (λ g. IsPairAtMost (taken_in a) (clocked_pair Zero g b q)) i (taken_more a b h)
  from_zero Unknown Zero i = right_more (taken_in a) q p k
  from_zero Unknown One i = left_more (taken_in a) (taken_in b) p (taken_more a b h)
  from_zero Unknown Unknown i = both_more (taken_in a) (taken_in b) p q (taken_more a b h) k

  -- a clock that is 0 now
  to_zero : (d : Tern) → IsPairAtMost p (clocked_pair d Zero b q)
  to_zero Zero = k
  to_zero One = k
  to_zero Unknown = k

  -- an unknown clock that is 1 now
  to_one : (d : Tern) → IsPairAtMost (common_pair (taken_in a) p) (clocked_pair d One b q)
  to_one Zero = left_more (taken_in a) (taken_in b) p (taken_more a b h)
  to_one One = right_more (taken_in a) q p k
  to_one Unknown = both_more (taken_in a) (taken_in b) p q (taken_more a b h) k

  -- an unknown clock that has stayed
  flat : (d e : Tern) → may_rise d e ≡ false → IsPairAtMost p (clocked_pair d e b q)
  flat Zero Zero f = k
  flat Zero One f = absurd (cc)
  flat Zero Unknown f = absurd (cc)
  flat One e f = k
  flat Unknown Zero f = k
  flat Unknown One f = absurd (cc)
  flat Unknown Unknown f = k

  clocked_more : (c d e f : Tern) → IsAtMost c e → IsAtMost d f → StaysFlat c d e f → IsPairAtMost (clocked_pair c d a p) (clocked_pair e f b q)
  clocked_more Zero d e f i j s = subst (λ g. IsPairAtMost (clocked_pair Zero d a p) (clocked_pair g f b q)) i (from_zero d f j)
  clocked_more One d e f i j s = subst (λ g. IsPairAtMost p (clocked_pair g f b q)) i k
  clocked_more Unknown Zero e f i j s = subst (λ g. IsPairAtMost p (clocked_pair e g b q)) j (to_zero e)
  clocked_more Unknown One e f i j s = subst (λ g. IsPairAtMost (common_pair (taken_in a) p) (clocked_pair e g b q)) j (to_one e)
  clocked_more Unknown Unknown e f i j s = flat e f (s refl refl)

-- controls
chosen_more : (c d a b x y : Tern) → IsAtMost c d → IsAtMost a x → IsAtMost b y → IsAtMost (chosen c a b) (chosen d x y)
chosen_more Zero d a b x y h i j = subst (λ g. IsAtMost a (chosen g x y)) h i
chosen_more One d a b x y h i j = subst (λ g. IsAtMost b (chosen g x y)) h j
chosen_more Unknown Zero a b x y h i j = through (common_of a b) a x (common_left a b) i
chosen_more Unknown One a b x y h i j = through (common_of a b) b y (common_right a b) j
chosen_more Unknown Unknown a b x y h i j = common_more a x b y i j

module _ (c d e f : Tern) (h : IsAtMost c d) (i : IsAtMost e f) where
  controlled_more : (a b u w x y : Tern) → IsAtMost a x → IsAtMost w y
      → let o : Outcomes = record { neither = a; cleared = u; preset = b; both = w } in let r : Outcomes = record { neither = x; cleared = u; preset = b; both = y } in IsAtMost (controlled c e o) (controlled d f r)
  controlled_more a b u w x y j k =
      let m = chosen_more c d (chosen e a b) (chosen e u w) (chosen f x b) (chosen f u y) h (chosen_more e f a b x b i j (same b)) (chosen_more e f u w u y i (same u) k) in
      rw (chosen_twice c e a b u w, chosen_twice d f x b u y) at m

  both_keeps : (b : Both) (x y : Tern) → IsAtMost x y → IsAtMost (both_value b x) (both_value b y)
  both_keeps says.Low x y j = refl
  both_keeps says.High x y j = refl
  both_keeps says.Keep x y j = j
  both_keeps says.Unknown x y j = tt

  controlled_pair_more : (b1 b2 : Both) (s t p q : Pair) → IsPairAtMost s t → IsPairAtMost p q → IsPairAtMost (controlled_pair c e b1 b2 s p) (controlled_pair d f b1 b2 t q)
  controlled_pair_more b1 b2 s t p q j k = (
    controlled_more p.first One Zero (both_value b1 s.first) q.first (both_value b1 t.first) k.0 (both_keeps b1 s.first t.first j.0),
    controlled_more p.second Zero One (both_value b2 s.second) q.second (both_value b2 t.second) k.1 (both_keeps b2 s.second t.second j.1),
  )

values_more : (names : List Named) (f : Function) (p q s t : List Tern) → AreAtMost p q → AreAtMost s t → IsAtMost (values_of names f p s) (values_of names f q t)
values_more names f p q s t h k = function_more f (name_value names p s) (name_value names q t) (name_more names p q s t h k)

pair_of_more : (s t : List Tern) → AreAtMost s t → IsPairAtMost (pair_of s) (pair_of t)
pair_of_more s t h = (value_more s t 0 h, value_more s t 1 h)

module _ (names : List Named) (fs : Functions) (both : List Both) (p q old new s t : List Tern) (i : AreAtMost q new) (j : AreAtMost s t) where
  latch_after : IsPairAtMost (pair_after Latched both names fs p q s) (pair_after Latched both names fs old new t)
  latch_after =
      controlled_pair_more (values_of names fs.clear q s) (values_of names fs.clear new t) (values_of names fs.preset q s) (values_of names fs.preset new t)
      (values_more names fs.clear q new s t i j) (values_more names fs.preset q new s t i j) (both_at both 0) (both_at both 1) (pair_of s) (pair_of t) _ _ (pair_of_more s t j)
      (latched_more (values_of names fs.value q s) (values_of names fs.value new t) (pair_of s) (pair_of t) (values_more names fs.value q new s t i j) (pair_of_more s t j)
      (values_of names fs.control q s) (values_of names fs.control new t) (values_more names fs.control q new s t i j))

  clocked_after : AreAtMost p old → StaysFlat (values_of names fs.control p s) (values_of names fs.control q s) (values_of names fs.control old t) (values_of names fs.control new t)
      → IsPairAtMost (pair_after Clocked both names fs p q s) (pair_after Clocked both names fs old new t)
  clocked_after h k =
      controlled_pair_more (values_of names fs.clear q s) (values_of names fs.clear new t) (values_of names fs.preset q s) (values_of names fs.preset new t)
      (values_more names fs.clear q new s t i j) (values_more names fs.preset q new s t i j) (both_at both 0) (both_at both 1) (pair_of s) (pair_of t) _ _ (pair_of_more s t j)
      (clocked_more (values_of names fs.value p s) (values_of names fs.value old t) (pair_of s) (pair_of t) (values_more names fs.value p old s t h j) (pair_of_more s t j)
      (values_of names fs.control p s) (values_of names fs.control q s) (values_of names fs.control old t) (values_of names fs.control new t)
      (values_more names fs.control p old s t h j) (values_more names fs.control q new s t i j) k)

-- values of a state
pair_value_by : (b c : Bool) (p q : Pair) (x y : Tern) → IsPairAtMost p q → IsAtMost x y → IsAtMost (if b then p.first else if c then p.second else x) (if b then q.first else if c then q.second else y)
pair_value_by true c p q x y h k = h.0
pair_value_by false true p q x y h k = h.1
pair_value_by false false p q x y h k = k

pair_value_more : (p q : Pair) (k : ℕ) (x y : Tern) → IsPairAtMost p q → IsAtMost x y → IsAtMost (pair_value p k x) (pair_value q k y)
pair_value_more p q k x y h i = pair_value_by (k == 0) (k == 1) p q x y h i

next_value_more : (s : Symbol) (x y : Tern) → IsAtMost x y → IsAtMost (next_value s x) (next_value s y)
next_value_more symbol.Low x y h = refl
next_value_more symbol.High x y h = refl
next_value_more symbol.Any x y h = tt
next_value_more symbol.Rise x y h = tt
next_value_more symbol.Fall x y h = tt
next_value_more symbol.NotRise x y h = tt
next_value_more symbol.NotFall x y h = tt
next_value_more symbol.Keep x y h = h
next_value_more symbol.Unknown x y h = tt

symbol_value_more : (s : Option Symbol) (x y : Tern) → IsAtMost x y → IsAtMost (symbol_value s x) (symbol_value s y)
symbol_value_more None x y h = tt
symbol_value_more (Some s) x y h = next_value_more s x y h

row_value_more : (r : Option Row) (k : ℕ) (x y : Tern) → IsAtMost x y → IsAtMost (row_value r k x) (row_value r k y)
row_value_more None k x y h = tt
row_value_more (Some r) k x y h = symbol_value_more (slice_get r.next k) x y h

row_value_once : (r o : Option Row) (k : ℕ) (x y : Tern) → (r ≡ None) ⊎ (r ≡ o) → IsAtMost x y → IsAtMost (row_value r k x) (row_value o k y)
row_value_once r o k x y d h = elim d [ inl e ↦ subst (λ g. IsAtMost (row_value g k x) (row_value o k y)) (sym e) tt | inr e ↦ subst (λ g. IsAtMost (row_value r k x) (row_value g k y)) e (row_value_more r k x y h) ]

same_length : (s t : List Tern) → AreAtMost s t → length s ≡ length t
same_length [] [] h = refl
same_length [] (y ∷ t) h = absurd h
same_length (x ∷ s) [] h = absurd h
same_length (x ∷ s) (y ∷ t) h = ap (λ n. suc n) (same_length s t h.1)

lists_more : (f g : ℕ → Tern) (j n : ℕ) → ((k : ℕ) → IsAtMost (f k) (g k)) → AreAtMost (values_from f j n) (values_from g j n)
unfolding values_from
lists_more f g j zero h = tt
lists_more f g j (suc n) h = (h j, lists_more f g (j + 1) n h)

states_more : (b : Behaviour) (p q s old new t : List Tern) → AreAtMost s t → ((k : ℕ) → IsAtMost (next_value_of b p q s k) (next_value_of b old new t k)) → AreAtMost (next_state b p q s) (next_state b old new t)
states_more b p q s old new t h k =
    subst (λ n. AreAtMost (next_state b p q s) (values_from (λ j. next_value_of b old new t j) 0 n)) (same_length s t h) (lists_more (λ j. next_value_of b p q s j) (λ j. next_value_of b old new t j) 0 (length s) k)

-- cells
output_by : (names : List Named) (nodes : List (List ℕ)) (used shown : Option (List ℕ)) (v : Valuation) → IsOutputBy names nodes used shown v → (p q s t : List Tern) → AreAtMost p q → AreAtMost s t → IsAtMost (v p s) (v q t)
output_by names nodes (Some used) shown v h p q s t i j = rw (h.2 p s, h.2 q t) (values_more names h.0 p q s t i j)
output_by names nodes None (Some n) v h p q s t i j = rw (h.2 p s, h.2 q t) (value_more s t h.0 j)
output_by names nodes None None v h p q s t i j = rw (h p s) tt

output_at : (cell : LibertyCell) (b : Behaviour) → Means cell b → (k : ℕ) (o : Option LibertyPin) → slice_get (output_pins cell.pins) k ≡ o → OutputKeeps b k
output_at cell b m k None e p q s t h i = rw (m.past k e p s) tt
output_at cell b m k (Some pin) e p q s t h i = output_by (names_of cell) (nodes_of cell.state) (output_text pin) pin.internal_node (output_value b k) (m.output k pin e) p q s t h i

pub output_keeps : (cell : LibertyCell) (b : Behaviour) → Means cell b → (k : ℕ) → OutputKeeps b k
output_keeps cell b m k = output_at cell b m k (slice_get (output_pins cell.pins) k) refl

pub stateless_keeps : (cell : LibertyCell) (b : Behaviour) → IsStateless cell b → NextKeeps b
stateless_keeps cell b m before later p q s t h i = states_more b before p s later q t i (λ k. rw (stateless_answers cell b m before p s k, stateless_answers cell b m later q t k) (value_more s t k i))

pub latch_keeps : (cell : LibertyCell) (latch : LatchText) (fs : Functions) (b : Behaviour) → IsLatched cell latch fs b → NextKeeps b
latch_keeps cell latch fs b m before later p q s t h i =
    states_more b before p s later q t i (λ k. rw (latch_answers cell latch fs b m before p s k, latch_answers cell latch fs b m later q t k)
    (pair_value_more _ _ k (value_at s k) (value_at t k) (latch_after (names_of cell) fs latch.both before p later q s t h i) (value_more s t k i)))

pub flip_flop_keeps : (cell : LibertyCell) (ff : FfText) (fs : Functions) (b : Behaviour) → IsFlipFlop cell ff fs b → ClockedKeeps (values_of (names_of cell) fs.control) b
flip_flop_keeps cell ff fs b m p q old new s t h i j k =
    states_more b p q s old new t j (λ n. rw (flip_flop_answers cell ff fs b m p q s n, flip_flop_answers cell ff fs b m old new t n)
    (pair_value_more _ _ n (value_at s n) (value_at t n) (clocked_after (names_of cell) fs ff.both p q old new s t i j h k) (value_more s t n j)))

pub table_keeps : (cell : LibertyCell) (r : RowsText) (columns : List Source) (rows : List Row) (b : Behaviour) → IsTable cell r columns rows b → TableKeeps columns rows b
table_keeps cell r columns rows b m p q old new s t h d =
    states_more b p q s old new t h (λ n. rw (table_answers cell r columns rows b m p q s n, table_answers cell r columns rows b m old new t n)
    (row_value_once _ _ n (value_at s n) (value_at t n) d (value_more s t n h)))
