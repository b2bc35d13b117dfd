-- Where nothing differs, the views are equal.
use Rattle.std.proofs.Common.{◌≡◌, ◌⊎◌, inl, inr, ℕ, zero, suc, ◌+◌, refl, sym, ◌∙◌, ap, subst, arith, List, [], ◌∷◌, ◌++◌, append_assoc, append-nil, map, length, Option, Some, None, Bool, true, false, not, ◌&&◌, if◌then◌else◌, slice_get}
use Rattle.std.specs.Option.{option_or, option_map}
use Rattle.tern_core.specs.declared.tern.Tern.{Tern}
use Rattle.tern_core.specs.declared.tern.Tern.TheVariants.{Zero, One, Unknown}
use Rattle.liberty_source.specs.declared.CellPart.{CellPart}
use Rattle.liberty_source.specs.declared.CellPart.TheVariants as cells
use Rattle.liberty_source.specs.declared.LibertyCell.{LibertyCell}
use Rattle.verilog_source.specs.declared.Source.{Source}
use Rattle.verilog_source.specs.declared.module.Module.{Module}
use Rattle.verilog_source.specs.declared.module.ModulePart.{ModulePart}
use Rattle.verilog_source.specs.declared.module.ModulePart.TheVariants as modules
use Rattle.liberty_meaning.specs.declared.behaviour.Behaviour.{Behaviour}
use Rattle.liberty_meaning.specs.Behaviour.{output_value}
use Rattle.liberty_meaning.specs.Names.{input_pins, output_pins}
use Rattle.liberty_meaning.specs.Cell.{Means}
use Rattle.name_index.specs.Places.{place_of}
use Rattle.udp_table.specs.Table.{Table}
use Rattle.gate_settle.specs.Network.{Network, IsSettled}
use Rattle.module_net.specs.Building.{NamedNetwork, IsNetOf}
use Rattle.module_net.proofs.Agreeing.{settled_agrees}
use Rattle.module_net.proofs.Refusals.{accepted_agrees}
use Rattle.liberty_source.specs.declared.LibertyPin.{LibertyPin}
use Rattle.verdict_text.specs.declared.finding.Finding.{Finding}
use Rattle.verdict_text.specs.declared.reason.Reason.{Reason}
use Rattle.cell_compare.specs.declared.comparison.Comparison.{Comparison}
use Rattle.cell_compare.specs.declared.comparison.Comparison.TheVariants.{Refused, Pins, Vectors}
use Rattle.cell_compare.specs.declared.reasons.Flaw.{Flaw}
use Rattle.cell_compare.specs.declared.rows.Output.{Output}
use Rattle.cell_compare.specs.declared.tally.OutputValues.{OutputValues}
use Rattle.cell_compare.specs.declared.tally.Disagreement.{Disagreement}
use Rattle.cell_compare.specs.Vectors.{vectors_from, vectors, IsVector}
use Rattle.cell_compare.specs.Rows.{output_at, outputs_of, net_value, values_from, AreRows, is_known, is_same, is_different, disagreement_in, first_disagreement, defined_count}
use Rattle.cell_compare.specs.Parts.{module_named, udp_name, AreMade, first_reason}
use Rattle.cell_compare.specs.Pins.{two_views, have_many_pins, compared, input_names, supplies_of}
use Rattle.cell_compare.specs.Compare as compare
use Rattle.cell_compare.specs.Compare.{finding_of, AreCompared, IsComparison}
use Rattle.cell_compare.specs.Equal.{AreEqualAt, IsEqual, IsEqualPart, SaysEqual}

-- ---- each vector of 0 and 1 is one of the list

abbrev IsIn : List Tern → List (List Tern) → Type 0
IsIn pins [] = ⊥
IsIn pins (v ∷ vs) = (pins ≡ v) ⊎ IsIn pins vs

in_front : (pins : List Tern) (a b : List (List Tern)) → IsIn pins a → IsIn pins (a ++ b)
in_front pins [] b h = absurd h
in_front pins (v ∷ a) b (inl h) = inl h
in_front pins (v ∷ a) b (inr h) = inr (in_front pins a b h)

in_back : (pins : List Tern) (a b : List (List Tern)) → IsIn pins b → IsIn pins (a ++ b)
in_back pins [] b h = h
in_back pins (v ∷ a) b h = inr (in_back pins a b h)

vector_is_in : (n : ℕ) (front pins : List Tern) → IsVector n pins → IsIn (front ++ pins) (vectors_from front n)
vector_is_in zero front [] h = inl (append-nil front)
vector_is_in zero front (v ∷ pins) h = absurd h
vector_is_in (suc n) front [] h = absurd h
vector_is_in (suc n) front (Unknown ∷ pins) h = absurd h
vector_is_in (suc n) front (Zero ∷ pins) h =
    in_front (front ++ Zero ∷ pins) (vectors_from (front ++ Zero ∷ []) n) (vectors_from (front ++ One ∷ []) n)
    (subst (λ (k : List Tern). IsIn k (vectors_from (front ++ Zero ∷ []) n)) (append_assoc front (Zero ∷ []) pins) (vector_is_in n (front ++ Zero ∷ []) pins h))
vector_is_in (suc n) front (One ∷ pins) h =
    in_back (front ++ One ∷ pins) (vectors_from (front ++ Zero ∷ []) n) (vectors_from (front ++ One ∷ []) n)
    (subst (λ (k : List Tern). IsIn k (vectors_from (front ++ One ∷ []) n)) (append_assoc front (One ∷ []) pins) (vector_is_in n (front ++ One ∷ []) pins h))

-- ---- a row without a disagreement for each vector of the list

both_none : {A : Type 0} (a b : Option A) → option_or a b ≡ None → (a ≡ None) × (b ≡ None)
both_none (Some x) b e = absurd cc
both_none None b e = (refl, e)

record RowFor (b : Behaviour) (network : Network) (outputs : List Output) (pins : List Tern) : Type 0 where
  pub row : ℕ
  pub nets : List Tern
  pub settled : IsSettled network pins [] nets
  pub same : disagreement_in row 0 (values_from b pins nets 0 outputs) ≡ None

row_for : (b : Behaviour) (network : Network) (outputs : List Output) (vs : List (List Tern)) (rows : List (List OutputValues)) (row : ℕ) (pins : List Tern)
    → AreRows b network outputs vs rows → first_disagreement row rows ≡ None → IsIn pins vs → RowFor b network outputs pins
row_for b network outputs [] [] row pins a n h = absurd h
row_for b network outputs [] (r ∷ rows) row pins a n h = absurd a
row_for b network outputs (v ∷ vs) [] row pins a n h = absurd a
row_for b network outputs (v ∷ vs) (r ∷ rows) row pins a n (inl e) =
    let none = both_none (disagreement_in row 0 r) (first_disagreement (row + 1) rows) n in
    let here : RowFor b network outputs v = record { row = row; nets = a.0.0; settled = a.0.1; same = ap (disagreement_in row 0) (sym a.0.2) ∙ none.0 } in
    subst (λ k. RowFor b network outputs k) (sym e) here
row_for b network outputs (v ∷ vs) (r ∷ rows) row pins a n (inr h) =
    row_for b network outputs vs rows (row + 1) pins a.1 (both_none (disagreement_in row 0 r) (first_disagreement (row + 1) rows) n).1 h

-- ---- the outputs of such a row

same_value : (a b : Tern) → is_same a b ≡ true → b ≡ a
same_value Zero Zero h = refl
same_value One One h = refl
same_value Unknown Unknown h = refl
same_value Zero One h = absurd cc
same_value Zero Unknown h = absurd cc
same_value One Zero h = absurd cc
same_value One Unknown h = absurd cc
same_value Unknown Zero h = absurd cc
same_value Unknown One h = absurd cc

not_different : (a b : Tern) → is_known a ≡ true → (is_known a && not (is_same a b)) ≡ false → b ≡ a
not_different a b k h =
    let n : not (is_same a b) ≡ false = rw k at h in
    elim (is_same a b) as (λ v. is_same a b ≡ v → b ≡ a) [
      | true ↦ λ e. same_value a b e
      | false ↦ λ e. absurd (let f : true ≡ false = rw e at n in cc)
    ] refl

not_first : (row k : ℕ) (v : OutputValues) (values : List OutputValues) → disagreement_in row k (v ∷ values) ≡ None → (is_different v ≡ false) × (disagreement_in row (k + 1) values ≡ None)
not_first row k v values h = elim (is_different v) as (λ d. (if d then Some (record { row = row; output = k; liberty = v.liberty; verilog = v.verilog }) else disagreement_in row (k + 1) values) ≡ None → (d ≡ false) × (disagreement_in row (k + 1) values ≡ None)) [
  | true ↦ λ e. absurd cc
  | false ↦ λ e. (refl, e)
] h

same_outputs : (b : Behaviour) (pins nets : List Tern) (row k : ℕ) (outputs : List Output) → disagreement_in row k (values_from b pins nets k outputs) ≡ None
    → (j : ℕ) (o : Output) → slice_get outputs j ≡ Some o → is_known (output_value b (k + j) pins []) ≡ true → net_value nets o.net ≡ output_value b (k + j) pins []
same_outputs b pins nets row k [] h j o e known = absurd cc
same_outputs b pins nets row k (x ∷ outputs) h zero o e known =
    let n = not_first row k (record { liberty = output_value b k pins []; verilog = net_value nets x.net }) (values_from b pins nets (k + 1) outputs) h in
    let x_is : x ≡ o = cc in
    let here : k + 0 ≡ k = omega arith in
    let known_here : is_known (output_value b k pins []) ≡ true = sym (ap (λ i. is_known (output_value b i pins [])) here) ∙ known in
    ap (λ (y : Output). net_value nets y.net) (sym x_is) ∙ not_different (output_value b k pins []) (net_value nets x.net) known_here n.0 ∙ sym (ap (λ i. output_value b i pins []) here)
same_outputs b pins nets row k (x ∷ outputs) h (suc j) o e known =
    let n = not_first row k (record { liberty = output_value b k pins []; verilog = net_value nets x.net }) (values_from b pins nets (k + 1) outputs) h in
    let here : k + suc j ≡ k + 1 + j = omega arith in
    same_outputs b pins nets row (k + 1) outputs n.1 j o e (sym (ap (λ i. is_known (output_value b i pins [])) here) ∙ known) ∙ sym (ap (λ i. output_value b i pins []) here)

mapped : {A B : Type 0} (f : A → B) (xs : List A) (k : ℕ) (x : A) → slice_get xs k ≡ Some x → slice_get (map f xs) k ≡ Some (f x)
mapped f [] k x e = absurd cc
mapped f (y ∷ xs) zero x e = let g : y ≡ x = cc in ap (λ z. Some (f z)) g
mapped f (y ∷ xs) (suc k) x e = mapped f xs k x e

no_finding : (outputs : List Output) (d : Option Disagreement) → option_map (finding_of outputs) d ≡ None → d ≡ None
no_finding outputs None e = refl
no_finding outputs (Some d) e = absurd cc

-- ---- the comparison

says_vectors : (c : Comparison) → SaysEqual c → (n : ℕ) × (d : ℕ) × (c ≡ Vectors n d None)
says_vectors (Refused r) s = absurd s
says_vectors (Pins found) s = absurd s
says_vectors (Vectors n d None) s = (n, d, refl)
says_vectors (Vectors n d (Some f)) s = absurd s

not_refused : (r : Reason) (c : Comparison) → c ≡ Refused r → SaysEqual c → ⊥
not_refused r c e s = let v = says_vectors c s in let f : Refused r ≡ Vectors v.0 v.1 None = sym e ∙ v.2 in cc

not_pins : (found : List Finding) (c : Comparison) → c ≡ Pins found → SaysEqual c → ⊥
not_pins found c e s = let v = says_vectors c s in let f : Pins found ≡ Vectors v.0 v.1 None = sym e ∙ v.2 in cc

none_differs : (b : Behaviour) (cell : LibertyCell) (net : NamedNetwork) (c : Comparison) (a : AreCompared b cell net c) → SaysEqual c → first_disagreement 1 a.rows ≡ None
none_differs b cell net c a s =
    let v = says_vectors c s in
    let f : Vectors (length a.rows) (defined_count a.rows) (option_map (finding_of (outputs_of net.names cell.pins)) (first_disagreement 1 a.rows)) ≡ Vectors v.0 v.1 None = sym a.found ∙ v.2 in
    let g : option_map (finding_of (outputs_of net.names cell.pins)) (first_disagreement 1 a.rows) ≡ None = cc in
    no_finding (outputs_of net.names cell.pins) (first_disagreement 1 a.rows) g

from_zero : (k : ℕ) → 0 + k ≡ k
from_zero k = omega arith

-- the same by the network that the module makes
record AreEqualIn (cell : LibertyCell) (b : Behaviour) (net : NamedNetwork) (pins : List Tern) : Type 0 where
  pub nets : List Tern
  pub settled : IsSettled net.network pins [] nets
  pub each : (nets : List Tern) → IsSettled net.network pins [] nets → (k : ℕ) (p : LibertyPin) → slice_get (output_pins cell.pins) k ≡ Some p
      → is_known (output_value b k pins []) ≡ true → net_value nets (place_of net.names p.name) ≡ output_value b k pins []

by_names : (cell : LibertyCell) (b : Behaviour) (m : Module) (tables : List Table) (net : NamedNetwork) → IsNetOf m tables (input_names cell) (supplies_of cell) net
    → (pins : List Tern) → AreEqualIn cell b net pins → AreEqualAt cell b m tables pins
by_names cell b m tables net is pins a =
    let both = settled_agrees m tables (input_names cell) (supplies_of cell) net is pins [] in
    record {
      nets = a.nets;
      settled = (both a.nets).0 a.settled;
      each = λ nets settled k p e known.
          subst (λ (names : List (List ℕ)). net_value nets (place_of names p.name) ≡ output_value b k pins []) is.names (a.each nets ((both nets).1 settled) k p e known);
    }

agree : (b : Behaviour) (cell : LibertyCell) (net : NamedNetwork) (c : Comparison) → AreCompared b cell net c → SaysEqual c
    → (pins : List Tern) → IsVector (length (input_pins cell.pins)) pins → AreEqualIn cell b net pins
agree b cell net c a s pins v =
    let outputs = outputs_of net.names cell.pins in
    let r = row_for b net.network outputs (vectors (length (input_pins cell.pins))) a.rows 1 pins a.each (none_differs b cell net c a s) (vector_is_in (length (input_pins cell.pins)) [] pins v) in
    let one = a.one_settled pins [] in
    record {
      nets = r.nets;
      settled = r.settled;
      each = λ nets settled k p e known.
          let same : nets ≡ r.nets = one.2 nets settled ∙ sym (one.2 r.nets r.settled) in
          ap (λ n. net_value n (place_of net.names p.name)) same
          ∙ same_outputs b pins r.nets r.row 0 outputs r.same k (output_at net.names p) (mapped (output_at net.names) (output_pins cell.pins) k p e)
          (ap (λ i. is_known (output_value b i pins [])) (from_zero k) ∙ known)
          ∙ ap (λ i. output_value b i pins []) (from_zero k);
    }

-- ---- the steps before it

either : {P Q R : Type 0} (b : Bool) → compare.Either b P Q → (P → R) → (Q → R) → R
either true h f g = f h
either false h f g = g h

module _ (cell : LibertyCell) (source : Source) (c : Comparison) (s : SaysEqual c) where
  never : {R : Type 0} (r : Reason) → c ≡ Refused r → R
  never r e = absurd (not_refused r c e s)

  over_tables : (m : Module) → module_named source.modules cell.name ≡ Some (modules.Whole m) → (b : Behaviour) → Means cell b
      → (flaws : List (Option Flaw)) (tables : List Table) → AreMade source.primitives flaws tables → compare.IsOverTables b cell m tables c → IsEqual cell source
  over_tables m model b means flaws tables made (compare.no_network e h r k x) = never r x
  over_tables m model b means flaws tables made (compare.network net is x) = either (compare.holds_state cell net) x (never _) (λ y. record {
    m = m;
    is_model = model;
    behaviour = b;
    means = means;
    flaws = flaws;
    tables = tables;
    made = made;
    accepted = accepted_agrees m tables (input_names cell) (supplies_of cell) net is;
    agree = λ pins v. by_names cell b m tables net is pins (agree b cell net c y s pins v);
  })

  over_reason : (o : Option Reason) {P R : Type 0} → compare.IsOverReason o P c → (P → R) → R
  over_reason (Some r) h f = never r h
  over_reason None h f = f h

  over_elements : (m : Module) → module_named source.modules cell.name ≡ Some (modules.Whole m) → (b : Behaviour) → Means cell b → compare.IsOverElements b cell m source.primitives c → IsEqual cell source
  over_elements m model b means (compare.drive_constants n x) = never _ x
  over_elements m model b means (compare.drive_nets n p) =
      over_reason (first_reason (map udp_name source.primitives) p.flaws m.elements) p.found (λ x. over_tables m model b means p.flaws p.tables p.made x)

  over_meaning : (m : Module) → module_named source.modules cell.name ≡ Some (modules.Whole m) → compare.IsOverMeaning cell m source.primitives c → IsEqual cell source
  over_meaning m model (compare.no_meaning e h r k x) = never r x
  over_meaning m model (compare.meaning b means x) = either _ x (never _) (over_elements m model b means)

  over_module : (o : Option Module) → ((m : Module) → o ≡ Some m → module_named source.modules cell.name ≡ Some (modules.Whole m)) → compare.IsOverModule cell o source.primitives c → IsEqual cell source
  over_module None model x = absurd x
  over_module (Some m) model x = either _ x (never _) (over_meaning m (model m refl))

  over_findings : (found : List Finding) (o : Option Module) → ((m : Module) → o ≡ Some m → module_named source.modules cell.name ≡ Some (modules.Whole m)) → compare.IsOverFindings found cell o source.primitives c → IsEqual cell source
  over_findings (f ∷ found) o model x = absurd (not_pins (f ∷ found) c x s)
  over_findings [] o model x = over_module o model x

  over_views : (o : Option Module) → ((m : Module) → o ≡ Some m → module_named source.modules cell.name ≡ Some (modules.Whole m)) → compare.IsOverViews cell o source.primitives c → IsEqual cell source
  over_views o model x = either (have_many_pins (two_views cell o)) x (never _) (λ p. over_findings (compared p.findings) o model p.found)

  over_part : (o : Option ModulePart) → module_named source.modules cell.name ≡ o → compare.IsOverPart cell o source.primitives c → IsEqual cell source
  over_part (Some (modules.Refused name construct line)) e x = never _ x
  over_part (Some (modules.Whole m)) e x = over_views (Some m) (λ n f. let g : m ≡ n = cc in e ∙ ap (λ k. Some (modules.Whole k)) g) x
  over_part None e x = over_views None (λ n f. absurd cc) x

-- a cell of which the comparison says that nothing differs
pub equal_part : (part : CellPart) (source : Source) (c : Comparison) → IsComparison part source c → SaysEqual c → IsEqualPart part source
equal_part (cells.Refused name construct line) source c i s = not_refused _ c i s
equal_part (cells.Whole cell) source c i s = over_part cell source c s (module_named source.modules cell.name) refl i

pub whole_part : (cell : LibertyCell) (part : CellPart) (source : Source) (o : Option ModulePart) (name : List ℕ) (c : Comparison)
    → part ≡ cells.Whole cell → o ≡ module_named source.modules name → name ≡ cell.name → compare.IsOverPart cell o source.primitives c → SaysEqual c → IsEqualPart part source
whole_part cell part source o name c p e n i s =
    rw p (over_part cell source c s (module_named source.modules cell.name) refl (subst (λ k. compare.IsOverPart cell k source.primitives c) (e ∙ ap (module_named source.modules) n) i))
