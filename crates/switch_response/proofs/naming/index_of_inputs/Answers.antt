use Rattle.std.proofs.Common.{◌≡◌, ◌+◌, ◌<◌, ℕ, List, [], ◌∷◌, ◌++◌, map, take, length, sym, ◌∙◌, ap, subst, append_assoc, arith}
use Rattle.std.specs.Str.{bytes_eq}
use Rattle.std.proofs.lemmas.List.{length-take, length-map, length-append}
use Rattle.switch_response.specs.NameIndex.{Adds}
use Rattle.switch_response.specs.Places.{Indexes}
use Rattle.switch_response.proofs.NameLists.{take_at, map_take_at, added, eq_back}
use Rattle.switch_response.proofs.naming.index_of_inputs.Goals as goal

pub loop-place-preserved : goal.loop-place-preserved
loop-place-preserved c =
    let lt : c.loop-place.place < length c.args.inputs.now = omega arith in
    let place : c.loop-place.place ≡ length (take c.loop-place.place c.args.inputs.now) = simp length-take (omega arith) in
    subst (λ names. Indexes bytes_eq names c.add.new.self) (sym (take_at c.args.inputs.now c.loop-place.place c.index-inputs-place.result lt c.index-inputs-place.is))
    (added bytes_eq _ c.index-inputs-place.result _ c.loop-place.index c.add.new.self _ _ place (λ q. eq_back q c.index-inputs-place.result) c.loop-place.invariant
    (subst (λ n. Adds c.loop-place.index c.add.new.self n c.loop-place.place c.in_ok-add.field-0) c.as_bytes.ensures c.in_ok-add.ensures))

pub supplies-preserved : goal.supplies-preserved
supplies-preserved c =
    let lt : c.supplies.place < length c.args.supplies.now = omega arith in
    let front : List (List ℕ) = c.args.inputs.now ++ map (λ s. s.name) (take c.supplies.place c.args.supplies.now) in
    let place : length c.args.inputs.now + c.supplies.place ≡ length front = simp (length-append, length-map, length-take) (omega arith) in
    let more : c.args.inputs.now ++ map (λ s. s.name) (take (c.supplies.place + 1) c.args.supplies.now) ≡ front ++ c.index-supplies-place.result.name ∷ [] =
    ap (λ xs. c.args.inputs.now ++ xs) (map_take_at (λ s. s.name) c.args.supplies.now c.supplies.place c.index-supplies-place.result lt c.index-supplies-place.is)
    ∙ sym (append_assoc c.args.inputs.now (map (λ s. s.name) (take c.supplies.place c.args.supplies.now)) (c.index-supplies-place.result.name ∷ [])) in
    subst (λ names. Indexes bytes_eq names c.add-in-supplies.new.self) (sym more)
    (added bytes_eq front c.index-supplies-place.result.name _ c.supplies.index c.add-in-supplies.new.self _ _ place (λ q. eq_back q c.index-supplies-place.result.name) c.supplies.invariant
    (subst (λ n. Adds c.supplies.index c.add-in-supplies.new.self n (length c.args.inputs.now + c.supplies.place) c.in_ok-add-2.field-0) (c.as_bytes-in-supplies.ensures ∙ ap (λ s. s.name) (sym c.index-supplies-place.is)) c.in_ok-add-2.ensures))
