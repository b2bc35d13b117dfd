use Rattle.std.proofs.Common.{sym, ◌∙◌, arith}
use Rattle.module_net.proofs.Values.{stands_within}
use Rattle.module_net.proofs.outside.value_of.Goals as goal

pub offset_bounds-values-place : goal.offset_bounds-values-place
offset_bounds-values-place c = let less = stands_within c.args.values.now c.args.index.now c.args.name.now c.in-Some.place c.requires (sym c.place_of.ensures ∙ c.in-Some.is) in let fits = c.well_formed.1.0.1 in omega arith

pub bounds-values-place : goal.bounds-values-place
bounds-values-place c = stands_within c.args.values.now c.args.index.now c.args.name.now c.in-Some.place c.requires (sym c.place_of.ensures ∙ c.in-Some.is)

pub bounds-values-place-in-Some : goal.bounds-values-place-in-Some
bounds-values-place-in-Some c = stands_within c.args.values.now c.args.index.now c.args.name.now c.in-Some.place c.requires (sym c.place_of.ensures ∙ c.in-Some.is)
