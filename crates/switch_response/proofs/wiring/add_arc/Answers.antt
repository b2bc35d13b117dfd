use Rattle.std.proofs.Common.{◌≡◌, List, [], ◌∷◌, ◌++◌, map, get_or, slice_set, sym, ◌∙◌, ap, arith}
use Rattle.std.proofs.lemmas.List.{map-set, get_or-map}
use Rattle.switch_response.specs.declared.wiring.Arc.{Arc}
use Rattle.switch_response.specs.Arcs.{arc_of}
use Rattle.switch_response.proofs.wiring.add_arc.Goals as goal

pub returns-in_ok-push : goal.returns-in_ok-push
returns-in_ok-push c = record {
  inside = λ lt.
      let rows : List (List Arc) = map (λ v. v.items) c.args.arcs.now in
      let row : get_or rows c.args.from [] ≡ (get_or c.args.arcs.now c.args.from c.index-arcs-from.result).items =
      get_or-map (λ v. v.items) c.args.arcs.now c.args.from c.index-arcs-from.result [] c.requires in
      map-set (λ v. v.items) c.args.arcs.now c.args.from c.push.new.self
      ∙ ap (λ row. slice_set rows c.args.from row) (c.in_ok-push.ensures.items ∙ ap (λ r. r ++ arc_of c.args.t.now c.args.to ∷ []) (sym row));
  outside = λ le. absurd (omega arith);
}
