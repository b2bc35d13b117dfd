use Rattle.std.proofs.Common.{◌≡◌, ◌<◌, ℕ, List, [], map, take, length, get_or, slice_index_or, sym, subst, arith}
use Rattle.std.proofs.lemmas.List.{get_or_default, length-map, take_all}
use Rattle.switch_response.specs.declared.transistor.Channel.TheVariants.{N}
use Rattle.switch_response.specs.declared.transistor.Transistor.{Transistor}
use Rattle.switch_response.specs.declared.wiring.Arc.{Arc}
use Rattle.switch_response.specs.Spread.{IsWithin}
use Rattle.switch_response.specs.Arcs.{AreArcsAt}
use Rattle.switch_response.proofs.NameLists.{take_at}
use Rattle.switch_response.proofs.ArcRows.{arcs_more, arcs_none}
use Rattle.switch_response.proofs.wiring.add_arcs.Goals as goal

pub loop-t-init : goal.loop-t-init
loop-t-init c node lt =
    let rows : List (List Arc) = map (λ v. v.items) c.args.arcs.now in
    arcs_none c.args.storage node (slice_index_or rows node []) (c.requires.none node [] (simp length-map lt))

pub loop-t-preserved : goal.loop-t-preserved
loop-t-preserved c node lt =
    let ts : List Transistor = c.args.transistors.now in
    let k : ℕ = c.loop-t.t-index in
    let d0 : Transistor = record { channel = N; gate = 0; drain = 0; source = 0; strength = 0 } in
    let t : Transistor = slice_index_or ts k d0 in
    let inside : k < length ts = c.loop-t-test.true in
    let is : t ≡ get_or ts k t = get_or_default ts k d0 t inside in
    let within : IsWithin (length c.args.arcs.now) t = c.requires.within k d0 inside in
    let rows : List (List Arc) = map (λ v. v.items) c.add_arc-in-loop-t.new.arcs in
    subst (λ xs. AreArcsAt xs c.args.storage node (slice_index_or rows node [])) (sym (take_at ts k t inside is))
    (arcs_more (take k ts) t c.args.storage (map (λ v. v.items) c.loop-t.arcs) (map (λ v. v.items) c.add_arc.new.arcs) rows
    (simp length-map (omega (arith, within.1))) (simp length-map (omega (arith, within.2))) c.in_ok-add_arc.ensures c.in_ok-add_arc-2.ensures node (c.loop-t.invariant node lt))

pub returns : goal.returns
returns c node lt =
    let ts : List Transistor = c.args.transistors.now in
    let rows : List (List Arc) = map (λ v. v.items) c.loop-t.arcs in
    subst (λ xs. AreArcsAt xs c.args.storage node (slice_index_or rows node [])) (take_all c.loop-t.t-index ts c.loop-t-test.false) (c.loop-t.invariant node lt)
