-- A cell's state group, its internal pins and its outputs.
use Rattle.std.proofs.Common.{◌≡◌, ℕ, ◌+◌, ◌<◌, ◌≤◌, refl, sym, subst, Bool, true, false, if◌then◌else◌, List, [], length, drop, get_or, Option, Some, None, is_some}
use Rattle.std.proofs.lemmas.List.{drop_all}
use Rattle.liberty_source.specs.declared.FfText.{FfText}
use Rattle.liberty_source.specs.declared.LatchText.{LatchText}
use Rattle.liberty_source.specs.declared.RowsText.{RowsText}
use Rattle.liberty_source.specs.declared.LibertyCell.{LibertyCell}
use Rattle.liberty_source.specs.declared.LibertyPin.{LibertyPin}
use Rattle.liberty_source.specs.declared.StateGroup.{StateGroup}
use Rattle.liberty_source.specs.declared.StateGroup.TheVariants.{Stateless, Ff, Latch, Rows}
use Rattle.liberty_function.specs.declared.function.Program.{Program}
use Rattle.liberty_function.specs.Sources.{Named}
use Rattle.liberty_meaning.specs.declared.behaviour.Behaviour.{Behaviour}
use Rattle.liberty_meaning.specs.declared.behaviour.StateProgram.{StateProgram}
use Rattle.liberty_meaning.specs.declared.behaviour.StateProgram.TheVariants as program
use Rattle.liberty_meaning.specs.declared.pairs.PairPrograms.{PairPrograms}
use Rattle.liberty_meaning.specs.declared.table.Table.{Table}
use Rattle.liberty_meaning.specs.declared.refusal.MeaningRefusal.{MeaningRefusal}
use Rattle.liberty_meaning.specs.declared.refusal.MeaningRefusal.TheVariants as refusal
use Rattle.liberty_meaning.specs.Names.{names_of, nodes_of, variables_of, input_pins, output_pins, is_direction_internal}
use Rattle.name_index.specs.Places.{place_of}
use Rattle.liberty_meaning.specs.Meaning.{OutputsAre, IsOutput, UnlessMemory, RefusesOutputs}
use Rattle.liberty_meaning.specs.PairMeaning.{NextPair, next_pair, IsFf, IsFfBy, IsLatch, IsLatchBy, IsGoodFfBy, IsGoodLatchBy}
use Rattle.liberty_meaning.specs.TableMeaning.{AreColumns, AreRows}
use Rattle.liberty_meaning.specs.Next.{IsNext, NextValue, IsGoodState}
use Rattle.liberty_meaning.specs.Behaviour.{inputs_of, states_of, outputs_of, output_value, next_value_of, state_after, value_by}
use Rattle.liberty_meaning.specs.Cell.{node_or, internal_or, unknown_internal, Means, Refuses, in_internals, in_outputs}
use Rattle.liberty_meaning.proofs.Naming.{next_item}
use Rattle.liberty_meaning.proofs.OutputLemmas.{output_at, output_past, outputs_length, unless}

module _ (names : List Named) (pins : List LibertyPin) (group : StateGroup) where
  pub next_nothing : group ≡ Stateless → IsNext names pins group (state_after program.Nothing)
  next_nothing e = rw e (λ old new state k. refl)

  pub next_ff : (ff : FfText) (q : PairPrograms) → group ≡ Ff ff → IsFf names ff (next_pair q) → IsNext names pins group (state_after (program.Pair q))
  next_ff ff q e h = rw e (next_pair q, h, λ old new state k. refl)

  pub next_latch : (latch : LatchText) (q : PairPrograms) → group ≡ Latch latch → IsLatch names latch (next_pair q) → IsNext names pins group (state_after (program.Pair q))
  next_latch latch q e h = rw e (next_pair q, h, λ old new state k. refl)

  pub next_rows : (r : RowsText) (t : Table) → group ≡ Rows r → AreColumns pins r t.columns × AreRows r t.rows → IsNext names pins group (state_after (program.Rows t))
  next_rows r t e h = rw e (t.columns, h.0, (t.rows, h.1, λ old new state k. refl))

good_ff : (a b : Option (List ℕ)) (names : List Named) (ff : FfText) (next : NextPair) → IsFfBy a b names ff next → IsGoodFfBy a b names ff
good_ff (Some a) (Some b) names ff next h = ((h.functions.value, h.are.is_value), ((h.functions.control, h.are.is_control), ((h.functions.clear, h.are.is_clear), ((h.functions.preset, h.are.is_preset), tt))))
good_ff (Some a) None names ff next h = absurd h
good_ff None b names ff next h = absurd h

good_latch : (a b : Option (List ℕ)) (names : List Named) (latch : LatchText) (next : NextPair) → IsLatchBy a b names latch next → IsGoodLatchBy a b names latch
good_latch (Some a) (Some b) names latch next h = ((h.functions.control, h.are.is_control), ((h.functions.value, h.are.is_value), ((h.functions.clear, h.are.is_clear), ((h.functions.preset, h.are.is_preset), tt))))
good_latch (Some a) None names latch next h = absurd h
good_latch None (Some b) names latch next h = absurd h
good_latch None None names latch next h = ((h.functions.control, h.are.is_control), ((h.functions.value, h.are.is_value), ((h.functions.clear, h.are.is_clear), ((h.functions.preset, h.are.is_preset), tt))))

-- a state group that has next values is good
pub good_state : (names : List Named) (pins : List LibertyPin) (group : StateGroup) (v : NextValue) → IsNext names pins group v → IsGoodState names pins group
good_state names pins Stateless v h = tt
good_state names pins (Ff ff) v h = good_ff ff.next_state ff.clocked_on names ff h.0 h.1
good_state names pins (Latch latch) v h = good_latch latch.enable latch.data_in names latch h.0 h.1
good_state names pins (Rows r) v h = ((h.0, h.1), (h.2.0, h.2.1))

pub means : (cell : LibertyCell) (n m : ℕ) (s : StateProgram) (qs : List Program)
    → n ≡ length (input_pins cell.pins) → m ≡ length (variables_of cell.state)
    → IsNext (names_of cell) cell.pins cell.state (state_after s)
    → unknown_internal (nodes_of cell.state) cell.pins ≡ None
    → OutputsAre (names_of cell) (nodes_of cell.state) (output_pins cell.pins) qs
    → let b : Behaviour = record { inputs = n; states = m; state = s; outputs = qs } in Means cell b
unfolding inputs_of states_of outputs_of output_value next_value_of
means cell n m s qs hn hm hs hi ho = record {
  inputs = hn;
  states = hm;
  outputs = outputs_length (names_of cell) (nodes_of cell.state) (output_pins cell.pins) qs ho;
  output = λ k p e.
      let a = output_at (names_of cell) (nodes_of cell.state) (output_pins cell.pins) qs ho k p e in
      subst (λ (o : Option Program). IsOutput (names_of cell) (nodes_of cell.state) p (λ pins state. value_by o pins state)) (sym a.1) a.2;
  past = λ k e pins state. rw (output_past (names_of cell) (nodes_of cell.state) (output_pins cell.pins) qs ho k e) refl;
  next = hs;
  internals = hi;
}

known_if : (t : Bool) (n : List ℕ) (more : Option (List ℕ)) → (if t then None else Some n) ≡ None → (if t then more else Some n) ≡ more
known_if true n more e = refl
known_if false n more e = absurd (cc)

found_if : (t : Bool) (n m : List ℕ) (more : Option (List ℕ)) → (if t then None else Some n) ≡ Some m → (if t then more else Some n) ≡ Some m
found_if true n m more e = absurd (cc)
found_if false n m more e = e

known_node : (nodes : List (List ℕ)) (o more : Option (List ℕ)) → node_or nodes o None ≡ None → node_or nodes o more ≡ more
known_node nodes None more e = refl
known_node nodes (Some n) more e = known_if (is_some (place_of nodes n)) n more e

found_node : (nodes : List (List ℕ)) (o more : Option (List ℕ)) (m : List ℕ) → node_or nodes o None ≡ Some m → node_or nodes o more ≡ Some m
found_node nodes None more m e = absurd (cc)
found_node nodes (Some n) more m e = found_if (is_some (place_of nodes n)) n m more e

known_by : (t : Bool) (nodes : List (List ℕ)) (o more : Option (List ℕ)) → (if t then node_or nodes o None else None) ≡ None → (if t then node_or nodes o more else more) ≡ more
known_by true nodes o more e = known_node nodes o more e
known_by false nodes o more e = refl

found_by : (t : Bool) (nodes : List (List ℕ)) (o more : Option (List ℕ)) (m : List ℕ) → (if t then node_or nodes o None else None) ≡ Some m → (if t then node_or nodes o more else more) ≡ Some m
found_by true nodes o more m e = found_node nodes o more m e
found_by false nodes o more m e = absurd (cc)

pub internal_known : (nodes : List (List ℕ)) (pins : List LibertyPin) (i : ℕ) (p : LibertyPin) → i < length pins → p ≡ get_or pins i p → internal_or nodes p None ≡ None → unknown_internal nodes (drop i pins) ≡ unknown_internal nodes (drop (i + 1) pins)
unfolding unknown_internal
internal_known nodes pins i p h is e = rw (next_item pins i p h is) (known_by (is_direction_internal p.direction) nodes p.internal_node (unknown_internal nodes (drop (i + 1) pins)) e)

pub internal_found : (nodes : List (List ℕ)) (pins : List LibertyPin) (i : ℕ) (p : LibertyPin) (m : List ℕ) → i < length pins → p ≡ get_or pins i p → internal_or nodes p None ≡ Some m → unknown_internal nodes (drop i pins) ≡ Some m
unfolding unknown_internal
internal_found nodes pins i p m h is e = rw (next_item pins i p h is) (found_by (is_direction_internal p.direction) nodes p.internal_node (unknown_internal nodes (drop (i + 1) pins)) m e)

pub internals_known : (nodes : List (List ℕ)) (pins : List LibertyPin) (i : ℕ) → length pins ≤ i → unknown_internal nodes (drop i pins) ≡ None
unfolding unknown_internal
internals_known nodes pins i h = let d : drop i pins ≡ [] = drop_all i pins h in rw d refl

pub refused_internals : (cell : LibertyCell) (s : StateProgram) (e : MeaningRefusal) → IsNext (names_of cell) cell.pins cell.state (state_after s)
    → UnlessMemory e ((n : List ℕ) × (unknown_internal (nodes_of cell.state) cell.pins ≡ Some n) × (e ≡ refusal.UnknownName n)) → UnlessMemory e (Refuses cell e)
refused_internals cell s e h r = unless e _ (Refuses cell e) (λ x. in_internals (good_state (names_of cell) cell.pins cell.state (state_after s) h) x.0 x.1 x.2) r

pub refused_outputs : (cell : LibertyCell) (s : StateProgram) (e : MeaningRefusal) → IsNext (names_of cell) cell.pins cell.state (state_after s) → unknown_internal (nodes_of cell.state) cell.pins ≡ None
    → UnlessMemory e (RefusesOutputs (names_of cell) (nodes_of cell.state) cell.pins e) → UnlessMemory e (Refuses cell e)
refused_outputs cell s e h i r = unless e _ (Refuses cell e) (λ x. in_outputs (good_state (names_of cell) cell.pins cell.state (state_after s) h) i x) r
