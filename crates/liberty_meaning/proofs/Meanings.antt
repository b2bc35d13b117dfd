-- What the calls of a compiled cell answer, in the cell's own functions and rows.
use Rattle.std.proofs.Common.{◌≡◌, ℕ, sym, ◌∙◌, ap, subst, List, Option, Some, None, slice_get}
use Rattle.tern_core.specs.declared.tern.Tern.{Tern}
use Rattle.liberty_source.specs.declared.Both.{Both}
use Rattle.liberty_source.specs.declared.FfText.{FfText}
use Rattle.liberty_source.specs.declared.LatchText.{LatchText}
use Rattle.liberty_source.specs.declared.RowsText.{RowsText}
use Rattle.liberty_source.specs.declared.LibertyCell.{LibertyCell}
use Rattle.liberty_source.specs.declared.LibertyPin.{LibertyPin}
use Rattle.liberty_source.specs.declared.StateGroup.TheVariants.{Ff, Latch, Rows}
use Rattle.liberty_function.specs.declared.program.Source.{Source}
use Rattle.liberty_function.specs.Function.{Function, SpellsText}
use Rattle.liberty_function.specs.Sources.{Named, value_at}
use Rattle.liberty_function.specs.Words.{words_of, bare}
use Rattle.liberty_function.proofs.OneValue.{one_tree}
use Rattle.liberty_meaning.specs.declared.behaviour.Behaviour.{Behaviour}
use Rattle.liberty_meaning.specs.declared.pairs.Kind.{Kind}
use Rattle.liberty_meaning.specs.declared.pairs.Kind.TheVariants.{Clocked, Latched}
use Rattle.liberty_meaning.specs.declared.table.Row.{Row}
use Rattle.liberty_meaning.specs.Names.{names_of, nodes_of, output_pins}
use Rattle.liberty_meaning.specs.Meaning.{Valuation, values_of, IsFunctionOf, IsOutputBy, output_text}
use Rattle.liberty_meaning.specs.PairMeaning.{Functions, AreFunctions, NextPair, IsPair, pair_after, IsFfBy, IsLatchBy}
use Rattle.liberty_meaning.specs.Table.{first_matching}
use Rattle.liberty_meaning.specs.Next.{IsNext, pair_value, row_value}
use Rattle.liberty_meaning.specs.Behaviour.{output_value, next_value_of}
use Rattle.liberty_meaning.specs.Cell.{Means}
use Rattle.liberty_meaning.specs.Groups.{IsStateless, IsFlipFlop, IsLatched, IsTable}

-- a text spells one function
pub same_function : (names : List Named) (text : Option (List ℕ)) (f g : Function) → IsFunctionOf names text f → IsFunctionOf names text g → f ≡ g
same_function names None f g h k = h ∙ sym k
same_function names (Some text) f g h k = one_tree (bare (words_of text)) f g h.0 k.0

pub same_functions : (names : List Named) (control value clear preset : Option (List ℕ)) (fs gs : Functions) → AreFunctions names control value clear preset fs → AreFunctions names control value clear preset gs → fs ≡ gs
same_functions names control value clear preset fs gs h k =
    let a = same_function names control fs.control gs.control h.is_control k.is_control in
    let b = same_function names value fs.value gs.value h.is_value k.is_value in
    let c = same_function names clear fs.clear gs.clear h.is_clear k.is_clear in
    let d = same_function names preset fs.preset gs.preset h.is_preset k.is_preset in
    let make : Function → Function → Function → Function → Functions = λ u v w x. record { control = u; value = v; clear = w; preset = x } in
    ap (λ u. make u fs.value fs.clear fs.preset) a ∙ ap (λ v. make gs.control v fs.clear fs.preset) b ∙ ap (λ w. make gs.control gs.value w fs.preset) c ∙ ap (λ x. make gs.control gs.value gs.clear x) d

output_by : (names : List Named) (nodes : List (List ℕ)) (used shown : Option (List ℕ)) (v : Valuation) (text : List ℕ) (f : Function) → IsOutputBy names nodes used shown v → used ≡ Some text → SpellsText text f → (pins state : List Tern) → v pins state ≡ values_of names f pins state
output_by names nodes None shown v text f h e k pins state = absurd (cc)
output_by names nodes (Some used) shown v text f h e k pins state =
    let s : used ≡ text = cc in
    let g : SpellsText used f = subst (λ t. SpellsText t f) (sym s) k in
    h.2 pins state ∙ ap (λ j. values_of names j pins state) (one_tree (bare (words_of used)) h.0 f h.1.0 g)

-- an output has the value of each function that its text spells
pub output_answers : (cell : LibertyCell) (b : Behaviour) → Means cell b → (k : ℕ) (p : LibertyPin) (text : List ℕ) (f : Function)
    → slice_get (output_pins cell.pins) k ≡ Some p → output_text p ≡ Some text → SpellsText text f
    → (pins state : List Tern) → output_value b k pins state ≡ values_of (names_of cell) f pins state
output_answers cell b m k p text f at used spelled pins state =
    output_by (names_of cell) (nodes_of cell.state) (output_text p) p.internal_node (output_value b k) text f (m.output k p at) used spelled pins state

pub ff_pair : (a b : Option (List ℕ)) (names : List Named) (ff : FfText) (next : NextPair) → IsFfBy a b names ff next → IsPair Clocked names ff.clocked_on ff.next_state ff.clear ff.preset ff.both next
ff_pair (Some a) (Some b) names ff next h = h
ff_pair (Some a) None names ff next h = absurd h
ff_pair None b names ff next h = absurd h

pub latch_pair : (a b : Option (List ℕ)) (names : List Named) (latch : LatchText) (next : NextPair) → IsLatchBy a b names latch next → IsPair Latched names latch.enable latch.data_in latch.clear latch.preset latch.both next
latch_pair (Some a) (Some b) names latch next h = h
latch_pair (Some a) None names latch next h = absurd h
latch_pair None (Some b) names latch next h = absurd h
latch_pair None None names latch next h = h

pair_by : (kind : Kind) (names : List Named) (control value clear preset : Option (List ℕ)) (both : List Both) (next : NextPair) (fs : Functions) → IsPair kind names control value clear preset both next → AreFunctions names control value clear preset fs
    → (old new state : List Tern) → next old new state ≡ pair_after kind both names fs old new state
pair_by kind names control value clear preset both next fs h k old new state =
    h.values old new state ∙ ap (λ gs. pair_after kind both names gs old new state) (same_functions names control value clear preset h.functions fs h.are k)

-- the next values of each kind of state group
pub stateless_answers : (cell : LibertyCell) (b : Behaviour) → IsStateless cell b → (old new state : List Tern) (k : ℕ) → next_value_of b old new state k ≡ value_at state k
stateless_answers cell b m = subst (λ g. IsNext (names_of cell) cell.pins g (next_value_of b)) m.group m.means.next

pub flip_flop_answers : (cell : LibertyCell) (ff : FfText) (fs : Functions) (b : Behaviour) → IsFlipFlop cell ff fs b
    → (old new state : List Tern) (k : ℕ) → next_value_of b old new state k ≡ pair_value (pair_after Clocked ff.both (names_of cell) fs old new state) k (value_at state k)
flip_flop_answers cell ff fs b m old new state k =
    let n : IsNext (names_of cell) cell.pins (Ff ff) (next_value_of b) = subst (λ g. IsNext (names_of cell) cell.pins g (next_value_of b)) m.group m.means.next in
    let p = ff_pair ff.next_state ff.clocked_on (names_of cell) ff n.0 n.1 in
    n.2 old new state k ∙ ap (λ q. pair_value q k (value_at state k)) (pair_by Clocked (names_of cell) ff.clocked_on ff.next_state ff.clear ff.preset ff.both n.0 fs p m.are old new state)

pub latch_answers : (cell : LibertyCell) (latch : LatchText) (fs : Functions) (b : Behaviour) → IsLatched cell latch fs b
    → (old new state : List Tern) (k : ℕ) → next_value_of b old new state k ≡ pair_value (pair_after Latched latch.both (names_of cell) fs old new state) k (value_at state k)
latch_answers cell latch fs b m old new state k =
    let n : IsNext (names_of cell) cell.pins (Latch latch) (next_value_of b) = subst (λ g. IsNext (names_of cell) cell.pins g (next_value_of b)) m.group m.means.next in
    let p = latch_pair latch.enable latch.data_in (names_of cell) latch n.0 n.1 in
    n.2 old new state k ∙ ap (λ q. pair_value q k (value_at state k)) (pair_by Latched (names_of cell) latch.enable latch.data_in latch.clear latch.preset latch.both n.0 fs p m.are old new state)

pub some_same : {X : Type 0} (o : Option X) (a b : X) → o ≡ Some a → o ≡ Some b → a ≡ b
some_same None a b e f = absurd (cc)
some_same (Some x) a b e f = let s : Some a ≡ Some b = sym e ∙ f in cc

pub table_answers : (cell : LibertyCell) (r : RowsText) (columns : List Source) (rows : List Row) (b : Behaviour) → IsTable cell r columns rows b
    → (old new state : List Tern) (k : ℕ) → next_value_of b old new state k ≡ row_value (first_matching columns old new state rows) k (value_at state k)
table_answers cell r columns rows b m old new state k =
    let n : IsNext (names_of cell) cell.pins (Rows r) (next_value_of b) = subst (λ g. IsNext (names_of cell) cell.pins g (next_value_of b)) m.group m.means.next in
    let c = some_same _ n.0 columns n.1 m.are_columns in
    let s = some_same _ n.2.0 rows n.2.1 m.are_rows in
    n.2.2 old new state k ∙ ap (λ d. row_value (first_matching d old new state n.2.0) k (value_at state k)) c ∙ ap (λ d. row_value (first_matching columns old new state d) k (value_at state k)) s
