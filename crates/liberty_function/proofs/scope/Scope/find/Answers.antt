use Rattle.std.proofs.Common.{rules, ◌≡◌, ◌∙◌, sym, ap, Some, None, slice_get, option_and_then, arith, length}
use Rattle.std.proofs.lemmas.Option.{slice_get-get_or}
use Rattle.name_index.proofs.Places.{place_within}
use Rattle.liberty_function.specs.Sources.{source_among}
use Rattle.liberty_function.proofs.Scoping.{source_among-named_of}
use Rattle.liberty_function.proofs.scope.Scope.find.Goals as goal

pub returns-in_err-place : goal.returns-in_err-place
returns-in_err-place c =
    let n : c.place_of.result ≡ None = c.in_err-place.was in
    let e : c.from_residual.result ≡ None = search rules in
    e ∙ sym (ap (λ k. source_among k c.args.name.now) (sym c.self.view_is) ∙ source_among-named_of _ c.self.inside.sources.items c.args.name.now
    ∙ ap (λ o. option_and_then (λ k. slice_get c.self.inside.sources.items k) o) (sym c.place_of.ensures ∙ n))

pub index-requires : goal.index-requires
index-requires c =
    let n : c.place_of.result ≡ Some c.in_ok-place.place = c.in_ok-place.was in
    let within = place_within c.self.inside.names c.args.name.now c.in_ok-place.place (sym c.place_of.ensures ∙ n) in
    let same : length c.self.inside.names ≡ length c.self.inside.sources.items = c.self.invariant in
    omega (arith, within, same)

pub returns : goal.returns
returns c =
    let n : c.place_of.result ≡ Some c.in_ok-place.place = c.in_ok-place.was in
    let within = place_within c.self.inside.names c.args.name.now c.in_ok-place.place (sym c.place_of.ensures ∙ n) in
    let same : length c.self.inside.names ≡ length c.self.inside.sources.items = c.self.invariant in
    let e = slice_get-get_or c.self.inside.sources.items c.in_ok-place.place c.index.result.now (omega (arith, within, same)) ∙ ap (λ k. Some k) (sym c.index.ensures) in
    sym (ap (λ k. source_among k c.args.name.now) (sym c.self.view_is) ∙ source_among-named_of _ c.self.inside.sources.items c.args.name.now
    ∙ ap (λ o. option_and_then (λ k. slice_get c.self.inside.sources.items k) o) (sym c.place_of.ensures ∙ n) ∙ e)
