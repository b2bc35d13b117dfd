use Rattle.std.proofs.Common.{◌≡◌, ◌<◌, ◌≤◌, List, [], map, slice_index_or, sym, ◌∙◌, ap, subst}
use Rattle.std.proofs.lemmas.List.{get_or-map}
use Rattle.switch_response.specs.declared.wiring.Arc.{Arc}
use Rattle.std.specs.Prelude.{All}
use Rattle.switch_response.specs.Spread.{IsWithin}
use Rattle.switch_response.specs.Arcs.{Wires, AreArcsAt}
use Rattle.switch_response.proofs.ArcRows.{arc_within}
use Rattle.switch_response.proofs.wiring.Wiring.arcs_at.Goals as goal
use Rattle.switch_response.proofs.wiring.Wiring.arcs_at.Goals.{After-deref}

arcs : (c : After-deref) → AreArcsAt c.args.self.now.transistors c.args.self.now.storage c.args.node c.deref.result.now
arcs c =
    let rows : List (List Arc) = map (λ v. v.items) c.self.inside.arcs.items in
    let lt : c.args.node < c.args.self.now.nodes = c.requires in
    let inside = subst (λ (w : Wires). c.args.node < w.nodes) (sym c.self.view_is) lt in
    let row : slice_index_or rows c.args.node [] ≡ c.deref.result.now =
    get_or-map (λ v. v.items) c.self.inside.arcs.items c.args.node c.index.result.now [] inside ∙ ap (λ v. v.items) (sym c.index.ensures) ∙ sym c.deref.ensures.value in
    subst (AreArcsAt c.args.self.now.transistors c.args.self.now.storage c.args.node) row
    (subst (λ (w : Wires). AreArcsAt w.transistors w.storage c.args.node (slice_index_or rows c.args.node [])) c.self.view_is (c.self.invariant.rows c.args.node inside))

pub returns-clause-arcs : goal.returns-clause-arcs
returns-clause-arcs c = arcs c

pub returns-clause-within : goal.returns-clause-within
returns-clause-within c k d lt =
    let within : All (IsWithin c.args.self.now.nodes) c.args.self.now.transistors = subst (λ (w : Wires). All (IsWithin w.nodes) w.transistors) c.self.view_is c.self.invariant.within in
    let less : c.args.self.now.storage ≤ c.args.self.now.nodes = subst (λ (w : Wires). w.storage ≤ w.nodes) c.self.view_is c.self.invariant.storage in
    arc_within c.args.self.now.nodes c.args.self.now.storage c.args.node c.args.self.now.transistors (slice_index_or c.deref.result.now k d) within less ((arcs c).each k d lt)
