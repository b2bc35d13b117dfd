-- A cell has one meaning, and none where it is refused.
use Rattle.std.proofs.Common.{◌≡◌, ℕ, zero, suc, ◌+◌, refl, sym, ◌∙◌, ap, List, [], ◌∷◌, ◌++◌, length, Option, Some, None, slice_get, inl, inr}
use Rattle.tern_core.specs.declared.tern.Tern.{Tern}
use Rattle.liberty_source.specs.declared.LibertyCell.{LibertyCell}
use Rattle.liberty_source.specs.declared.LibertyPin.{LibertyPin}
use Rattle.liberty_source.specs.declared.FfText.{FfText}
use Rattle.liberty_source.specs.declared.LatchText.{LatchText}
use Rattle.liberty_source.specs.declared.StateGroup.{StateGroup}
use Rattle.liberty_source.specs.declared.StateGroup.TheVariants.{Stateless, Ff, Latch, Rows}
use Rattle.liberty_function.specs.declared.program.Source.{Source}
use Rattle.liberty_function.specs.Words.{words_of, bare}
use Rattle.liberty_function.specs.Sources.{Named, value_at, source_among}
use Rattle.liberty_function.proofs.OneValue.{one_tree, bad_spells_nothing}
use Rattle.liberty_meaning.specs.declared.behaviour.Behaviour.{Behaviour}
use Rattle.liberty_meaning.specs.declared.pairs.Kind.TheVariants.{Clocked, Latched}
use Rattle.liberty_meaning.specs.declared.refusal.MeaningRefusal.{MeaningRefusal}
use Rattle.liberty_meaning.specs.declared.refusal.MeaningRefusal.TheVariants as refusal
use Rattle.liberty_meaning.specs.declared.table.Row.{Row}
use Rattle.liberty_meaning.specs.declared.table_text.RowWords.{RowWords}
use Rattle.liberty_meaning.specs.Names.{names_of, nodes_of, output_pins, inputs_from}
use Rattle.name_index.specs.Places.{place_of}
use Rattle.liberty_meaning.specs.Meaning.{Valuation, values_of, IsGood, RefusesText, RefusesOptional, IsOutputBy, RefusesOutputBy, output_text, RefusesOutputs}
use Rattle.liberty_meaning.specs.PairMeaning.{pair_after, RefusesFirst, here, later, AreGood, IsGoodFfBy, RefusesFfBy, IsGoodLatchBy, RefusesLatchBy}
use Rattle.liberty_meaning.specs.Table.{made, first_matching}
use Rattle.liberty_meaning.specs.TableMeaning.{appended, all_made, with_column, columns_in}
use Rattle.liberty_meaning.specs.Next.{NextValue, IsNext, IsGoodState, RefusesState, pair_value, row_value}
use Rattle.liberty_meaning.specs.Behaviour.{output_value, next_value_of, values_from}
use Rattle.liberty_meaning.specs.Cell.{Means, Refuses, in_state, in_internals, in_outputs}
use Rattle.liberty_meaning.specs.Groups.{SameMeaning}
use Rattle.liberty_meaning.proofs.CellLemmas.{good_state}
use Rattle.liberty_meaning.proofs.Meanings.{same_functions, ff_pair, latch_pair, some_same}

refused_text : (names : List Named) (owner text : List ℕ) (e : MeaningRefusal) → IsGood names (Some text) → RefusesText names owner text e → ⊥
refused_text names owner text refusal.NoMemory g h = h
refused_text names owner text (refusal.BadFunction o place) g h = bad_spells_nothing text h.1.0 g.0 h.1.2 g.1.0
refused_text names owner text (refusal.UnknownName n) g h = let a = g.1.1 in let b = h.1 in cc
refused_text names owner text (refusal.BadStateRow row) g h = h
refused_text names owner text (refusal.Construct word line) g h = h

refused_optional : (names : List Named) (owner : List ℕ) (text : Option (List ℕ)) (e : MeaningRefusal) → IsGood names text → RefusesOptional names owner text e → ⊥
refused_optional names owner None e g h = h
refused_optional names owner (Some text) e g h = refused_text names owner text e g h

refused_first : (names : List Named) (texts : List (List ℕ × Option (List ℕ))) (e : MeaningRefusal) → RefusesFirst names texts e → AreGood names texts → ⊥
refused_first names [] e h g = elim h [ ]
refused_first names ((owner, text) ∷ rest) e (here h) g = refused_optional names owner text e g.0 h
refused_first names ((owner, text) ∷ rest) e (later k h) g = refused_first names rest e h g.1

refused_ff : (a b : Option (List ℕ)) (names : List Named) (ff : FfText) (e : MeaningRefusal) → IsGoodFfBy a b names ff → RefusesFfBy a b names ff e → ⊥
refused_ff (Some a) (Some b) names ff e g h = refused_first names _ e h g
refused_ff (Some a) None names ff e g h = g
refused_ff None b names ff e g h = g

refused_latch : (a b : Option (List ℕ)) (names : List Named) (latch : LatchText) (e : MeaningRefusal) → IsGoodLatchBy a b names latch → RefusesLatchBy a b names latch e → ⊥
refused_latch (Some a) (Some b) names latch e g h = refused_first names _ e h g
refused_latch (Some a) None names latch e g h = g
refused_latch None (Some b) names latch e g h = g
refused_latch None None names latch e g h = refused_first names _ e h g

no_columns : (o : Option Source) → with_column o None ≡ None
no_columns None = refl
no_columns (Some s) = refl

columns_stop : (inputs : List Named) (before after : List (List ℕ)) (bad : List ℕ) → source_among inputs bad ≡ None → columns_in inputs (before ++ bad ∷ after) ≡ None
unfolding columns_in
columns_stop inputs [] after bad e = rw e refl
columns_stop inputs (n ∷ before) after bad e = rw (columns_stop inputs before after bad e) (no_columns (source_among inputs n))

no_rows : (o : Option (List Row)) → appended o None ≡ None
no_rows None = refl
no_rows (Some rs) = refl

rows_stop : (n m : ℕ) (before after : List RowWords) (bad : RowWords) → made n m bad.words ≡ None → all_made n m (before ++ bad ∷ after) ≡ None
unfolding all_made
rows_stop n m [] after bad e = rw e refl
rows_stop n m (t ∷ before) after bad e = rw (rows_stop n m before after bad e) (no_rows (made n m t.words))

none_some : {X : Type 0} (o : Option X) (x : X) → o ≡ None → o ≡ Some x → ⊥
none_some o x e f = cc

refused_state : (names : List Named) (pins : List LibertyPin) (group : StateGroup) (e : MeaningRefusal) → IsGoodState names pins group → RefusesState names pins group e → ⊥
refused_state names pins Stateless e g h = h
refused_state names pins (Ff ff) e g h = refused_ff ff.next_state ff.clocked_on names ff e g h
refused_state names pins (Latch latch) e g h = refused_latch latch.enable latch.data_in names latch e g h
refused_state names pins (Rows r) e g h = elim h [
  | inl c ↦ none_some _ g.0.0 (ap (λ k. columns_in (inputs_from 0 pins) k) c.whole ∙ columns_stop _ c.before c.after c.bad c.refused) g.0.1
  | inr k ↦ let c = k.1 in none_some _ g.1.0 (ap (λ k. all_made (length r.inputs) (length r.nodes) k) c.whole ∙ rows_stop _ _ c.before c.after c.bad c.refused) g.1.1
]

refused_output : (names : List Named) (nodes : List (List ℕ)) (owner : List ℕ) (text shown : Option (List ℕ)) (v : Valuation) (e : MeaningRefusal) → IsOutputBy names nodes text shown v → RefusesOutputBy names nodes owner text shown e → ⊥
refused_output names nodes owner (Some text) shown v e g h = refused_text names owner text e (g.0, g.1) h
refused_output names nodes owner None (Some n) v e g h = none_some (place_of nodes n) g.0 h.1 g.1
refused_output names nodes owner None None v e g h = h

get_middle : {X : Type 0} (before after : List X) (x : X) → slice_get (before ++ x ∷ after) (length before) ≡ Some x
get_middle [] after x = refl
get_middle (y ∷ before) after x = get_middle before after x

refused_outputs : (cell : LibertyCell) (b : Behaviour) (e : MeaningRefusal) → Means cell b → RefusesOutputs (names_of cell) (nodes_of cell.state) cell.pins e → ⊥
refused_outputs cell b e m r =
    let g = m.output (length r.before) r.pin (ap (λ k. slice_get k (length r.before)) r.whole ∙ get_middle r.before r.after r.pin) in
    refused_output (names_of cell) (nodes_of cell.state) r.pin.name (output_text r.pin) r.pin.internal_node (output_value b (length r.before)) e g r.refused

-- what has a meaning is not refused
pub not_both : (cell : LibertyCell) (b : Behaviour) (e : MeaningRefusal) → Means cell b → Refuses cell e → ⊥
not_both cell b e m (in_state h) = refused_state (names_of cell) cell.pins cell.state e (good_state (names_of cell) cell.pins cell.state (next_value_of b) m.next) h
not_both cell b e m (in_internals g n h s) = none_some _ n m.internals h
not_both cell b e m (in_outputs g i h) = refused_outputs cell b e m h

-- one meaning
same_output : (names : List Named) (nodes : List (List ℕ)) (text shown : Option (List ℕ)) (v w : Valuation) → IsOutputBy names nodes text shown v → IsOutputBy names nodes text shown w → (pins state : List Tern) → v pins state ≡ w pins state
same_output names nodes (Some text) shown v w h k pins state =
    h.2 pins state ∙ ap (λ f. values_of names f pins state) (one_tree (bare (words_of text)) h.0 k.0 h.1.0 k.1.0) ∙ sym (k.2 pins state)
same_output names nodes None (Some n) v w h k pins state = h.2 pins state ∙ ap (λ j. value_at state j) (some_same (place_of nodes n) h.0 k.0 h.1 k.1) ∙ sym (k.2 pins state)
same_output names nodes None None v w h k pins state = h pins state ∙ sym (k pins state)

output_once : (cell : LibertyCell) (b c : Behaviour) → Means cell b → Means cell c → (k : ℕ) (o : Option LibertyPin) → slice_get (output_pins cell.pins) k ≡ o → (pins state : List Tern) → output_value b k pins state ≡ output_value c k pins state
output_once cell b c m n k None e pins state = m.past k e pins state ∙ sym (n.past k e pins state)
output_once cell b c m n k (Some p) e pins state = same_output (names_of cell) (nodes_of cell.state) (output_text p) p.internal_node (output_value b k) (output_value c k) (m.output k p e) (n.output k p e) pins state

next_once : (names : List Named) (pins : List LibertyPin) (group : StateGroup) (v w : NextValue) → IsNext names pins group v → IsNext names pins group w → (old new state : List Tern) (k : ℕ) → v old new state k ≡ w old new state k
next_once names pins Stateless v w h j old new state k = h old new state k ∙ sym (j old new state k)
next_once names pins (Ff ff) v w h j old new state k =
    let p = ff_pair ff.next_state ff.clocked_on names ff h.0 h.1 in
    let q = ff_pair ff.next_state ff.clocked_on names ff j.0 j.1 in
    let e = p.values old new state ∙ ap (λ fs. pair_after Clocked ff.both names fs old new state) (same_functions names ff.clocked_on ff.next_state ff.clear ff.preset p.functions q.functions p.are q.are) ∙ sym (q.values old new state) in
    h.2 old new state k ∙ ap (λ r. pair_value r k (value_at state k)) e ∙ sym (j.2 old new state k)
next_once names pins (Latch latch) v w h j old new state k =
    let p = latch_pair latch.enable latch.data_in names latch h.0 h.1 in
    let q = latch_pair latch.enable latch.data_in names latch j.0 j.1 in
    let e = p.values old new state ∙ ap (λ fs. pair_after Latched latch.both names fs old new state) (same_functions names latch.enable latch.data_in latch.clear latch.preset p.functions q.functions p.are q.are) ∙ sym (q.values old new state) in
    h.2 old new state k ∙ ap (λ r. pair_value r k (value_at state k)) e ∙ sym (j.2 old new state k)
next_once names pins (Rows r) v w h j old new state k =
    let c = some_same _ h.0 j.0 h.1 j.1 in
    let s = some_same _ h.2.0 j.2.0 h.2.1 j.2.1 in
    h.2.2 old new state k ∙ ap (λ d. row_value (first_matching d old new state h.2.0) k (value_at state k)) c ∙ ap (λ d. row_value (first_matching j.0 old new state d) k (value_at state k)) s ∙ sym (j.2.2 old new state k)

lists_once : (f g : ℕ → Tern) (j n : ℕ) → ((k : ℕ) → f k ≡ g k) → values_from f j n ≡ values_from g j n
unfolding values_from
lists_once f g j zero h = refl
lists_once f g j (suc n) h = rw (h j, lists_once f g (j + 1) n h) refl

pub one_meaning : (cell : LibertyCell) (b c : Behaviour) → Means cell b → Means cell c → SameMeaning b c
one_meaning cell b c m n = record {
  inputs = m.inputs ∙ sym n.inputs;
  states = m.states ∙ sym n.states;
  outputs = m.outputs ∙ sym n.outputs;
  output = λ k pins state. output_once cell b c m n k (slice_get (output_pins cell.pins) k) refl pins state;
  next = λ old new state. lists_once (λ k. next_value_of b old new state k) (λ k. next_value_of c old new state k) 0 (length state) (λ k. next_once (names_of cell) cell.pins cell.state (next_value_of b) (next_value_of c) m.next n.next old new state k);
}
