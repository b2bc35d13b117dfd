use Rattle.std.proofs.Common.{◌≡◌, ◌<◌, ◌++◌, [], slice_index_or, map, length, take, drop, sym, ◌∙◌, ap, subst, arith, rules}
use Rattle.std.specs.Prelude.{All}
use Rattle.std.proofs.lemmas.List.{length-map, take_all, take-append-le}
use Rattle.switch_response.specs.Spread.{IsWithin}
use Rattle.switch_response.specs.Arcs.{AreArcs, AreArcsAt}
use Rattle.switch_response.proofs.wiring.Wiring.new.Goals as goal

pub invariant_of-result : goal.invariant_of-result
invariant_of-result c =
    let rest = drop (length c.add_arcs.new.arcs) c.in_ok-arcs.arcs.items in
    let long : length c.add_arcs.new.arcs ≡ length c.in_ok-arcs.arcs.items = search rules in
    let len : c.in_ok-arcs.arcs.len ≡ length c.in_ok-arcs.arcs.items = search rules in
    let same : take c.in_ok-arcs.arcs.len (c.add_arcs.new.arcs ++ rest) ≡ c.add_arcs.new.arcs =
    take-append-le c.in_ok-arcs.arcs.len c.add_arcs.new.arcs rest (omega arith) ∙ take_all c.in_ok-arcs.arcs.len c.add_arcs.new.arcs (omega arith) in
    let count : length c.add_arcs.new.arcs ≡ c.args.nodes = long ∙ c.in_ok-arcs.ensures.count in
    subst (λ arcs. AreArcs (record { transistors = c.args.transistors.items; storage = c.args.storage; nodes = length arcs }) (map (λ v. v.items) arcs)) (sym same)
    (record {
      count = length-map c.add_arcs.new.arcs (λ v. v.items);
      rows = λ node lt.
          let inside : node < length c.deref_mut.result.now = omega (arith, ap length c.deref_mut.ensures.value) in
          subst (λ ts. AreArcsAt ts c.args.storage node (slice_index_or (map (λ v. v.items) c.add_arcs.new.arcs) node [])) c.deref.ensures.value (c.in_ok-add_arcs.ensures node inside);
      storage = omega (arith, c.requires.storage);
      within = subst (λ n. All (IsWithin n) c.args.transistors.items) (sym count) c.requires.within;
    })
