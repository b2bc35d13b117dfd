use Rattle.std.proofs.Common.{◌≡◌, ◌<◌, ℕ, true, false, List, take, length, sym, ◌∙◌, ap, subst, length-take, arith}
use Rattle.std.specs.Str.{bytes_eq}
use Rattle.circuit.specs.declared.tech.Size.{Size}
use Rattle.switch_response.specs.NameIndex.{Adds}
use Rattle.switch_response.specs.Places.{Indexes, is_size_of}
use Rattle.switch_response.proofs.NameLists.{take_at, added, passed}
use Rattle.switch_response.proofs.CardModels.{other_cell, this_cell}
use Rattle.switch_response.proofs.building.index_of_sizes.Goals as goal
use Rattle.switch_response.proofs.building.index_of_sizes.Goals.{then-eq+in_ok-add, else-eq}

pub loop-place-preserved : goal.loop-place-preserved
loop-place-preserved c =
    let cell : List ℕ = c.args.cell.now in
    let size : Size = c.index-sizes-place.result in
    let lt : c.loop-place.place < length c.args.sizes.now = omega arith in
    let place : c.loop-place.place ≡ length (take c.loop-place.place c.args.sizes.now) = simp length-take (omega arith) in
    subst (λ sizes. Indexes (is_size_of cell) sizes c.if-eq.index) (sym (take_at c.args.sizes.now c.loop-place.place size lt c.index-sizes-place.is))
    (elim c.if-eq.branch [
      | then-eq+in_ok-add w ↦
          let same : bytes_eq cell size.cell ≡ true = ap (bytes_eq cell) (sym c.as_bytes.ensures) ∙ sym w.if-eq.ensures in
          subst (Indexes (is_size_of cell) _) (sym w.index-is)
          (added (is_size_of cell) _ size size.node c.loop-place.index w.add.new.self _ _ place (this_cell cell size same) c.loop-place.invariant
          (subst (λ n. Adds c.loop-place.index w.add.new.self n c.loop-place.place w.in_ok-add.field-0) w.as_bytes-then-eq.ensures w.in_ok-add.ensures))
      | else-eq w ↦
          let other : bytes_eq cell size.cell ≡ false = ap (bytes_eq cell) (sym c.as_bytes.ensures) ∙ sym w.if-eq.ensures in
          subst (Indexes (is_size_of cell) _) (sym w.index-is) (passed (is_size_of cell) _ size c.loop-place.index (other_cell cell size other) c.loop-place.invariant)
    ])
