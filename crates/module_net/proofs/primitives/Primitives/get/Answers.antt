use Rattle.std.proofs.Common.{sym, ◌∙◌, ap}
use Rattle.std.specs.Prelude.{slice_get}
use Rattle.module_net.specs.Elements.{table_named}
use Rattle.module_net.proofs.Values.{got, first_table}
use Rattle.module_net.proofs.primitives.Primitives.get.Goals as goal

pub returns : goal.returns
returns c =
    got c.as_slice.result.now c.in_ok-place.place c.get.result c.get.ensures.lookup.0 c.get.ensures.lookup.1
    ∙ ap (λ xs. slice_get xs c.in_ok-place.place) c.as_slice.ensures
    ∙ sym (first_table c.self.inside.tables c.self.inside.names c.args.name.now c.in_ok-place.place c.self.invariant (sym c.place_of.ensures ∙ c.in_ok-place.was))
    ∙ ap (λ xs. table_named xs c.args.name.now) c.self.view_is
