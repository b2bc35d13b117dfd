-- A cell that has no meaning has one reason.
use Rattle.std.proofs.Common.{◌≡◌, ◌⊎◌, inl, inr, ℕ, ◌+◌, List, [], ◌∷◌, ◌++◌, map, length, append_assoc, Option, Some, None, refl, sym, ◌∙◌, ap, subst}
use Rattle.std.specs.Prelude.{is_some, All}
use Rattle.std.proofs.lemmas.List.{map-append}
use Rattle.std.proofs.lemmas.List.Elements.{All-head, All-tail}
use Rattle.liberty_source.specs.declared.LibertyCell.{LibertyCell}
use Rattle.liberty_source.specs.declared.LibertyPin.{LibertyPin}
use Rattle.liberty_source.specs.declared.FfText.{FfText}
use Rattle.liberty_source.specs.declared.LatchText.{LatchText}
use Rattle.liberty_source.specs.declared.StateGroup.{StateGroup}
use Rattle.liberty_source.specs.declared.StateGroup.TheVariants.{Stateless, Ff, Latch, Rows}
use Rattle.liberty_function.specs.declared.program.Source.{Source}
use Rattle.liberty_function.specs.Function.{Function, IsFunction, SpellsText, IsFront, CannotFollow, IsBadAt}
use Rattle.liberty_function.specs.Words.{words_of, bare}
use Rattle.liberty_function.specs.Sources.{Named, source_among}
use Rattle.liberty_function.specs.Texts.{unknown_among}
use Rattle.liberty_function.proofs.OneValue.{bad_spells_nothing}
use Rattle.liberty_meaning.specs.declared.refusal.MeaningRefusal.{MeaningRefusal}
use Rattle.liberty_meaning.specs.declared.refusal.MeaningRefusal.TheVariants as refusal
use Rattle.liberty_meaning.specs.declared.table.Row.{Row}
use Rattle.liberty_source.specs.declared.RowsText.{RowsText}
use Rattle.liberty_meaning.specs.Names.{names_of, nodes_of, inputs_from}
use Rattle.liberty_meaning.specs.Meaning.{told, IsGood, RefusesText, RefusesOptional, output_text, IsGoodOutputBy, IsGoodOutput, RefusesOutputBy, RefusesOutputs}
use Rattle.liberty_meaning.specs.PairMeaning.{RefusesFirst, here, later, AreGood, ff_texts, latch_texts, IsGoodFfBy, RefusesFfBy, IsGoodLatchBy, RefusesLatchBy}
use Rattle.liberty_meaning.specs.Table.{made}
use Rattle.liberty_meaning.specs.TableText.{rows_of}
use Rattle.liberty_meaning.specs.TableMeaning.{appended, all_made, with_column, columns_in, RefusesColumns, RefusesRows}
use Rattle.liberty_meaning.specs.Next.{IsGoodState, RefusesState}
use Rattle.liberty_meaning.specs.Cell.{Refuses, in_state, in_internals, in_outputs}
use Rattle.verdict_text.specs.declared.reason.Reason.{Reason}
use Rattle.cell_compare.specs.Reasons.{IsMeaningReason}
use Rattle.cell_compare.proofs.Cuts.{none_some, same_some, IsLater, later_or_sooner, same_middle}

-- ---- the first token that cannot follow

module _ {P W : Type 0} (Front : List W → Type 0) (Cannot : List W → List P → ℕ → Type 0) (word : P → W)
    (shorter : (us vs : List W) → Front (us ++ vs) → Front us) (alike : (us vs : List W) (rest : List P) (p q : ℕ) → Cannot us rest p → Cannot vs rest q → p ≡ q)
    (stuck : (us : List W) (t : P) (rest : List P) (p : ℕ) → Cannot us (t ∷ rest) p → Front (us ++ word t ∷ []) → ⊥) where
  begun : (xs w ys : List P) (t : P) → ys ≡ xs ++ t ∷ w → Front (map word ys) → Front (map word xs ++ word t ∷ [])
  begun xs w ys t e h =
      let parts : map word ys ≡ (map word xs ++ word t ∷ []) ++ map word w = ap (map word) e ∙ map-append word xs (t ∷ w) ∙ sym (append_assoc (map word xs) (word t ∷ []) (map word w)) in
      shorter (map word xs ++ word t ∷ []) (map word w) (subst Front parts h)

  not_later : (p q : ℕ) (xs cs ys bs : List P) → Cannot (map word xs) cs p → Front (map word ys) → Cannot (map word ys) bs q → IsLater xs cs ys bs → p ≡ q
  not_later p q xs cs ys bs h front k c = go c.0 c.1 c.2
    where
      go : (w : List P) → ys ≡ xs ++ w → cs ≡ w ++ bs → p ≡ q
      go [] e f = alike (map word xs) (map word ys) bs p q (subst (λ z. Cannot (map word xs) z p) f h) k
      go (t ∷ w) e f = absurd (stuck (map word xs) t (w ++ bs) p (subst (λ z. Cannot (map word xs) z p) f h) (begun xs w ys t e front))

  stops_once : (p q : ℕ) (xs cs ys bs : List P) → xs ++ cs ≡ ys ++ bs → Front (map word xs) → Front (map word ys) → Cannot (map word xs) cs p → Cannot (map word ys) bs q → p ≡ q
  stops_once p q xs cs ys bs e f g h k = elim (later_or_sooner xs cs ys bs e) [
    | inl c ↦ not_later p q xs cs ys bs h g k c
    | inr c ↦ sym (not_later q p ys bs xs cs k f h c)
  ]

bad_once : (text : List ℕ) (p q : ℕ) → IsBadAt text p → IsBadAt text q → p ≡ q
bad_once text p q a b =
    stops_once IsFront (λ us rest k. CannotFollow us rest (length text) k) (λ t. t.word)
    (λ us vs h. (vs ++ h.0, h.1, subst (λ k. IsFunction k h.1) (append_assoc us vs h.0) h.2))
    (λ us vs rest m n. elim rest as (λ r. CannotFollow us r (length text) m → CannotFollow vs r (length text) n → m ≡ n) [ [] ↦ λ h k. h.0 ∙ sym k.0 | t ∷ ts ↦ λ h k. h.0 ∙ sym k.0 ])
    (λ us t rest k h. h.1)
    p q a.0 a.1 b.0 b.1 (sym a.2 ∙ b.2) a.3 b.3 a.4 b.4

-- ---- a text

abbrev IsBad : List ℕ → List ℕ → MeaningRefusal → Type 0
IsBad owner text e = (k : ℕ) × IsBadAt text k × (e ≡ refusal.BadFunction owner (told k))

abbrev Lacks : List Named → List ℕ → MeaningRefusal → Type 0
Lacks names text e = ((f : Function) × SpellsText text f) × ((n : List ℕ) × (unknown_among names (bare (words_of text)) ≡ Some n) × (e ≡ refusal.UnknownName n))

why : (names : List Named) (owner text : List ℕ) (e : MeaningRefusal) → RefusesText names owner text e → IsBad owner text e ⊎ Lacks names text e
why names owner text refusal.NoMemory h = absurd h
why names owner text (refusal.BadFunction o place) h = inl (h.1.0, h.1.2, ap (λ k. refusal.BadFunction k place) h.0 ∙ ap (λ k. refusal.BadFunction owner k) h.1.1)
why names owner text (refusal.UnknownName n) h = inr (h.0, (n, h.1, refl))
why names owner text (refusal.BadStateRow row) h = absurd h
why names owner text (refusal.Construct word line) h = absurd h

text_once : (names : List Named) (owner text : List ℕ) (e f : MeaningRefusal) → RefusesText names owner text e → RefusesText names owner text f → e ≡ f
text_once names owner text e f h k = go (why names owner text e h) (why names owner text f k)
  where
    go : IsBad owner text e ⊎ Lacks names text e → IsBad owner text f ⊎ Lacks names text f → e ≡ f
    go (inl a) (inl b) = a.2 ∙ ap (λ j. refusal.BadFunction owner (told j)) (bad_once text a.0 b.0 a.1 b.1) ∙ sym b.2
    go (inl a) (inr b) = absurd (bad_spells_nothing text a.0 b.0.0 a.1 b.0.1)
    go (inr a) (inl b) = absurd (bad_spells_nothing text b.0 a.0.0 b.1 a.0.1)
    go (inr a) (inr b) = a.1.2 ∙ ap (λ n. refusal.UnknownName n) (same_some _ a.1.0 b.1.0 a.1.1 b.1.1) ∙ sym b.1.2

text_good : (names : List Named) (owner text : List ℕ) (e : MeaningRefusal) → IsGood names (Some text) → RefusesText names owner text e → ⊥
text_good names owner text e g h = elim (why names owner text e h) [
  | inl a ↦ bad_spells_nothing text a.0 g.0 a.1 g.1.0
  | inr a ↦ none_some _ a.1.0 g.1.1 a.1.1
]

optional_once : (names : List Named) (owner : List ℕ) (text : Option (List ℕ)) (e f : MeaningRefusal) → RefusesOptional names owner text e → RefusesOptional names owner text f → e ≡ f
optional_once names owner None e f h k = absurd h
optional_once names owner (Some text) e f h k = text_once names owner text e f h k

optional_good : (names : List Named) (owner : List ℕ) (text : Option (List ℕ)) (e : MeaningRefusal) → IsGood names text → RefusesOptional names owner text e → ⊥
optional_good names owner None e g h = h
optional_good names owner (Some text) e g h = text_good names owner text e g h

-- ---- a flip-flop and a latch

first_once : (names : List Named) (texts : List (List ℕ × Option (List ℕ))) (e f : MeaningRefusal) → RefusesFirst names texts e → RefusesFirst names texts f → e ≡ f
first_once names [] e f h k = elim h [ ]
first_once names ((owner, text) ∷ rest) e f (here h) (here k) = optional_once names owner text e f h k
first_once names ((owner, text) ∷ rest) e f (here h) (later g k) = absurd (optional_good names owner text e g h)
first_once names ((owner, text) ∷ rest) e f (later g h) (here k) = absurd (optional_good names owner text f g k)
first_once names ((owner, text) ∷ rest) e f (later g h) (later i k) = first_once names rest e f h k

first_good : (names : List Named) (texts : List (List ℕ × Option (List ℕ))) (e : MeaningRefusal) → RefusesFirst names texts e → AreGood names texts → ⊥
first_good names [] e h g = elim h [ ]
first_good names ((owner, text) ∷ rest) e (here h) g = optional_good names owner text e g.0 h
first_good names ((owner, text) ∷ rest) e (later k h) g = first_good names rest e h g.1

ff_once : (a b : Option (List ℕ)) (names : List Named) (ff : FfText) (e f : MeaningRefusal) → RefusesFfBy a b names ff e → RefusesFfBy a b names ff f → e ≡ f
ff_once (Some a) (Some b) names ff e f h k = first_once names (ff_texts ff) e f h k
ff_once (Some a) None names ff e f h k = h ∙ sym k
ff_once None b names ff e f h k = h ∙ sym k

ff_good : (a b : Option (List ℕ)) (names : List Named) (ff : FfText) (e : MeaningRefusal) → IsGoodFfBy a b names ff → RefusesFfBy a b names ff e → ⊥
ff_good (Some a) (Some b) names ff e g h = first_good names (ff_texts ff) e h g
ff_good (Some a) None names ff e g h = g
ff_good None b names ff e g h = g

latch_once : (a b : Option (List ℕ)) (names : List Named) (latch : LatchText) (e f : MeaningRefusal) → RefusesLatchBy a b names latch e → RefusesLatchBy a b names latch f → e ≡ f
latch_once (Some a) (Some b) names latch e f h k = first_once names (latch_texts latch) e f h k
latch_once (Some a) None names latch e f h k = h ∙ sym k
latch_once None (Some b) names latch e f h k = h ∙ sym k
latch_once None None names latch e f h k = first_once names (latch_texts latch) e f h k

latch_good : (a b : Option (List ℕ)) (names : List Named) (latch : LatchText) (e : MeaningRefusal) → IsGoodLatchBy a b names latch → RefusesLatchBy a b names latch e → ⊥
latch_good (Some a) (Some b) names latch e g h = first_good names (latch_texts latch) e h g
latch_good (Some a) None names latch e g h = g
latch_good None (Some b) names latch e g h = g
latch_good None None names latch e g h = first_good names (latch_texts latch) e h g

-- ---- a table

no_columns : (o : Option Source) → with_column o None ≡ None
no_columns None = refl
no_columns (Some s) = refl

columns_stop : (inputs : List Named) (before after : List (List ℕ)) (bad : List ℕ) → source_among inputs bad ≡ None → columns_in inputs (before ++ bad ∷ after) ≡ None
unfolding columns_in
columns_stop inputs [] after bad e = rw e refl
columns_stop inputs (n ∷ before) after bad e = rw (columns_stop inputs before after bad e) (no_columns (source_among inputs n))

no_rows : (o : Option (List Row)) → appended o None ≡ None
no_rows None = refl
no_rows (Some rows) = refl

module _ {R : Type 0} (all : List R → Option (List Row)) (one : R → Option (List Row)) (step : (t : R) (ts : List R) → all (t ∷ ts) ≡ appended (one t) (all ts)) where
  rows_stop : (before after : List R) (bad : R) → one bad ≡ None → all (before ++ bad ∷ after) ≡ None
  rows_stop [] after bad e = step bad after ∙ ap (λ o. appended o (all after)) e
  rows_stop (t ∷ before) after bad e = step t (before ++ bad ∷ after) ∙ ap (appended (one t)) (rows_stop before after bad e) ∙ no_rows (one t)

  some_bad : (texts before after : List R) (bad : R) (rows : List Row) → one bad ≡ None → texts ≡ before ++ bad ∷ after → all texts ≡ Some rows → ⊥
  some_bad texts before after bad rows h e g = none_some (all texts) rows (ap all e ∙ rows_stop before after bad h) g

  first_bad_once : (before after others rest : List R) (x y : R) (rows more : List Row) → before ++ x ∷ after ≡ others ++ y ∷ rest → one x ≡ None → one y ≡ None → all before ≡ Some rows → all others ≡ Some more → before ≡ others
  first_bad_once before after others rest x y rows more e h k g j =
      (same_middle before after others rest x y e (λ w d. some_bad others before w x more h d j) (λ w d. some_bad before others w y rows k d g)).0

columns_good : (inputs : List Named) (names before after : List (List ℕ)) (bad : List ℕ) (columns : List Source) → source_among inputs bad ≡ None → names ≡ before ++ bad ∷ after → columns_in inputs names ≡ Some columns → ⊥
columns_good inputs names before after bad columns h e g = none_some (columns_in inputs names) columns (ap (columns_in inputs) e ∙ columns_stop inputs before after bad h) g

rows_good : (r : RowsText) (rows : List Row) (e : MeaningRefusal) → all_made (length r.inputs) (length r.nodes) (rows_of r.table) ≡ Some rows → RefusesRows (length r.inputs) (length r.nodes) (rows_of r.table) e → ⊥
unfolding all_made
rows_good r rows e g a =
    some_bad (all_made (length r.inputs) (length r.nodes)) (λ t. made (length r.inputs) (length r.nodes) t.words) (λ t ts. refl) (rows_of r.table) a.before a.after a.bad rows a.refused a.whole g

columns_once : (inputs : List Named) (names : List (List ℕ)) (e f : MeaningRefusal) → RefusesColumns inputs names e → RefusesColumns inputs names f → e ≡ f
columns_once inputs names e f a b =
    let same = same_middle a.before a.after b.before b.after a.bad b.bad (sym a.whole ∙ b.whole)
    (λ w g. columns_good inputs b.before a.before w a.bad b.columns a.refused g b.good)
    (λ w g. columns_good inputs a.before b.before w b.bad a.columns b.refused g a.good) in
    a.error ∙ ap (λ n. refusal.UnknownName n) same.1 ∙ sym b.error

rows_once : (r : RowsText) (e f : MeaningRefusal) → RefusesRows (length r.inputs) (length r.nodes) (rows_of r.table) e → RefusesRows (length r.inputs) (length r.nodes) (rows_of r.table) f → e ≡ f
unfolding all_made
rows_once r e f a b =
    let same = first_bad_once (all_made (length r.inputs) (length r.nodes)) (λ t. made (length r.inputs) (length r.nodes) t.words) (λ t ts. refl)
    a.before a.after b.before b.after a.bad b.bad a.rows b.rows (sym a.whole ∙ b.whole) a.refused b.refused a.good b.good in
    a.error ∙ ap (λ k. refusal.BadStateRow (told (k + 1))) (ap length same) ∙ sym b.error

-- ---- the state group

state_good : (names : List Named) (pins : List LibertyPin) (group : StateGroup) (e : MeaningRefusal) → IsGoodState names pins group → RefusesState names pins group e → ⊥
state_good names pins Stateless e g h = h
state_good names pins (Ff ff) e g h = ff_good ff.next_state ff.clocked_on names ff e g h
state_good names pins (Latch latch) e g h = latch_good latch.enable latch.data_in names latch e g h
state_good names pins (Rows r) e g h = elim h [
  | inl c ↦ columns_good (inputs_from 0 pins) r.inputs c.before c.after c.bad g.0.0 c.refused c.whole g.0.1
  | inr k ↦ rows_good r g.1.0 e g.1.1 k.1
]

state_once : (names : List Named) (pins : List LibertyPin) (group : StateGroup) (e f : MeaningRefusal) → RefusesState names pins group e → RefusesState names pins group f → e ≡ f
state_once names pins Stateless e f h k = absurd h
state_once names pins (Ff ff) e f h k = ff_once ff.next_state ff.clocked_on names ff e f h k
state_once names pins (Latch latch) e f h k = latch_once latch.enable latch.data_in names latch e f h k
state_once names pins (Rows r) e f (inl a) (inl b) = columns_once (inputs_from 0 pins) r.inputs e f a b
state_once names pins (Rows r) e f (inl a) (inr b) = absurd (columns_good (inputs_from 0 pins) r.inputs a.before a.after a.bad b.0.0 a.refused a.whole b.0.1)
state_once names pins (Rows r) e f (inr a) (inl b) = absurd (columns_good (inputs_from 0 pins) r.inputs b.before b.after b.bad a.0.0 b.refused b.whole a.0.1)
state_once names pins (Rows r) e f (inr a) (inr b) = rows_once r e f a.1 b.1

-- ---- the outputs

output_once : (names : List Named) (nodes : List (List ℕ)) (owner : List ℕ) (text shown : Option (List ℕ)) (e f : MeaningRefusal)
    → RefusesOutputBy names nodes owner text shown e → RefusesOutputBy names nodes owner text shown f → e ≡ f
output_once names nodes owner (Some text) shown e f h k = text_once names owner text e f h k
output_once names nodes owner None (Some n) e f h k = h.0 ∙ sym k.0
output_once names nodes owner None None e f h k = absurd h

output_good : (names : List Named) (nodes : List (List ℕ)) (owner : List ℕ) (text shown : Option (List ℕ)) (e : MeaningRefusal)
    → IsGoodOutputBy names nodes text shown → RefusesOutputBy names nodes owner text shown e → ⊥
output_good names nodes owner (Some text) shown e g h = text_good names owner text e g h
output_good names nodes owner None (Some n) e g h = let no = ap is_some h.1 in let both = sym g ∙ no in cc
output_good names nodes owner None None e g h = h

all_middle : {X : Type 0} (P : X → Type 0) (before after : List X) (x : X) → All P (before ++ x ∷ after) → P x
all_middle P [] after x h = All-head P x after h
all_middle P (y ∷ before) after x h = all_middle P before after x (All-tail P y (before ++ x ∷ after) h)

module _ (names : List Named) (nodes : List (List ℕ)) (pins : List LibertyPin) where
  not_before : (e f : MeaningRefusal) (a : RefusesOutputs names nodes pins e) (b : RefusesOutputs names nodes pins f) (w : List LibertyPin) → b.before ≡ a.before ++ a.pin ∷ w → ⊥
  not_before e f a b w g =
      output_good names nodes a.pin.name (output_text a.pin) a.pin.internal_node e
      (all_middle (λ p. IsGoodOutput names nodes p) a.before w a.pin (subst (λ k. All (λ p. IsGoodOutput names nodes p) k) g b.good)) a.refused

  outputs_once : (e f : MeaningRefusal) → RefusesOutputs names nodes pins e → RefusesOutputs names nodes pins f → e ≡ f
  outputs_once e f a b =
      let same = same_middle a.before a.after b.before b.after a.pin b.pin (sym a.whole ∙ b.whole) (not_before e f a b) (not_before f e b a) in
      output_once names nodes b.pin.name (output_text b.pin) b.pin.internal_node e f
      (subst (λ (p : LibertyPin). RefusesOutputBy names nodes p.name (output_text p) p.internal_node e) same.1 a.refused) b.refused

-- ---- the cell

refusal_once : (cell : LibertyCell) (e f : MeaningRefusal) → Refuses cell e → Refuses cell f → e ≡ f
refusal_once cell e f (in_state h) (in_state k) = state_once (names_of cell) cell.pins cell.state e f h k
refusal_once cell e f (in_state h) (in_internals g n k s) = absurd (state_good (names_of cell) cell.pins cell.state e g h)
refusal_once cell e f (in_state h) (in_outputs g i k) = absurd (state_good (names_of cell) cell.pins cell.state e g h)
refusal_once cell e f (in_internals g n h s) (in_state k) = absurd (state_good (names_of cell) cell.pins cell.state f g k)
refusal_once cell e f (in_internals g n h s) (in_internals j m k t) = s ∙ ap (λ z. refusal.UnknownName z) (same_some _ n m h k) ∙ sym t
refusal_once cell e f (in_internals g n h s) (in_outputs j i k) = absurd (none_some _ n i h)
refusal_once cell e f (in_outputs g i h) (in_state k) = absurd (state_good (names_of cell) cell.pins cell.state f g k)
refusal_once cell e f (in_outputs g i h) (in_internals j n k t) = absurd (none_some _ n i k)
refusal_once cell e f (in_outputs g i h) (in_outputs j l k) = outputs_once (names_of cell) (nodes_of cell.state) cell.pins e f h k

told_once : (e : MeaningRefusal) (r s : Reason) → IsMeaningReason e r → IsMeaningReason e s → r ≡ s
told_once refusal.NoMemory r s h k = absurd h
told_once (refusal.UnknownName n) r s h k = h ∙ sym k
told_once (refusal.BadFunction o place) r s h k = h ∙ sym k
told_once (refusal.BadStateRow row) r s h k = h ∙ sym k
told_once (refusal.Construct word line) r s h k = h ∙ sym k

-- a cell is refused for one reason
pub one_meaning_reason : (cell : LibertyCell) (e f : MeaningRefusal) (r s : Reason) → Refuses cell e → Refuses cell f → IsMeaningReason e r → IsMeaningReason f s → r ≡ s
one_meaning_reason cell e f r s h k a b = told_once f r s (subst (λ z. IsMeaningReason z r) (refusal_once cell e f h k) a) b
