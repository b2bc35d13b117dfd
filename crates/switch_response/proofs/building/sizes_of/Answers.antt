use Rattle.std.proofs.Common.{◌≡◌, ◌<◌, ℕ, List, [], ◌∷◌, ◌++◌, length, sym, ◌∙◌, ap, arith}
use Rattle.switch_response.specs.NameIndex.{found}
use Rattle.switch_response.specs.Wiring.{size_of}
use Rattle.switch_response.proofs.NameLists.{map_take_at}
use Rattle.switch_response.proofs.CardModels.{size_within, size_found, size_missing}
use Rattle.switch_response.proofs.building.sizes_of.Goals as goal
use Rattle.switch_response.proofs.building.sizes_of.Goals.{in-Some, in-None}

pub strength_at-requires : goal.strength_at-requires
strength_at-requires c =
    size_within c.args.sizes.now c.args.cell.now c.name-item.result c.in_ok-index.index c.in-Some.place c.in_ok-index.ensures
    (c.in-Some.ensures ∙ ap (found c.in_ok-index.index) c.as_bytes.ensures)

pub loop-name-preserved : goal.loop-name-preserved
loop-name-preserved c =
    let sizes = size_of c.args.sizes.now c.args.cell.now in
    let name : List ℕ = c.name-item.result in
    let lt : c.loop-name.name-index < length c.args.names.now = omega arith in
    let pushed : c.push.new.self.items ≡ c.loop-name.strengths.items ++ c.match-get.push ∷ [] = c.in_ok-push.ensures.items in
    let size : c.match-get.push ≡ size_of c.args.sizes.now c.args.cell.now name = elim c.match-get.branch [
      | in-Some w ↦ w.push-is ∙ size_found c.args.sizes.now c.args.cell.now name c.in_ok-index.index w.in-Some.place w.strength_at.result c.in_ok-index.ensures
          (w.in-Some.ensures ∙ ap (found c.in_ok-index.index) c.as_bytes.ensures) w.strength_at.ensures
      | in-None w ↦ w.push-is ∙ size_missing c.args.sizes.now c.args.cell.now name c.in_ok-index.index c.in_ok-index.ensures (w.in-None.ensures ∙ ap (found c.in_ok-index.index) c.as_bytes.ensures)
    ] in
    pushed ∙ ap (λ s. c.loop-name.strengths.items ++ s ∷ []) size ∙ ap (λ xs. xs ++ size_of c.args.sizes.now c.args.cell.now name ∷ []) c.loop-name.invariant
    ∙ sym (map_take_at (size_of c.args.sizes.now c.args.cell.now) c.args.names.now c.loop-name.name-index name lt c.name-item.is)
