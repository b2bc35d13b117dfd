use Rattle.std.proofs.Common.{◌≡◌, Some, None, length, rules, subst}
use Rattle.std.specs.Prelude.{IsSome}
use Rattle.std.specs.Ordering.{nat_cmp}
use Rattle.std.specs.Cmp.Lexicographic.{slice_cmp}
use Rattle.std.specs.BTreeMap.{UpdatesBy}
use Rattle.name_index.specs.Held.{found}
use Rattle.name_index.proofs.Keys.{updated}
use Rattle.name_index.proofs.Index.{index_known, index_new}
use Rattle.name_index.proofs.first_places.FirstPlaces.add.Goals as goal

pub returns-then-is_some-clause-ok : goal.returns-then-is_some-clause-ok
returns-then-is_some-clause-ok c =
    let known : IsSome (found c.args.self.now c.args.name.now) = search rules in
    λ names held last. index_known names c.args.self.now c.args.name.now known held

pub returns-clause-ok : goal.returns-clause-ok
returns-clause-ok c =
    let name = c.args.name.now in
    let old = c.args.self.now.places in
    let absent : found c.args.self.now name ≡ None = search rules in
    let same : c.in_ok-to_vec.field-0.items ≡ name = search rules in
    let updates : UpdatesBy (λ x y. slice_cmp nat_cmp x.items y.items) (λ k. slice_cmp nat_cmp name k.items) old c.insert.new.self (Some c.args.place) =
    subst (λ bs. UpdatesBy (λ x y. slice_cmp nat_cmp x.items y.items) (λ k. slice_cmp nat_cmp bs k.items) old c.insert.new.self (Some c.args.place)) same c.in_ok-insert.ensures.updates in
    λ names held last.
    index_new names c.args.self.now (record { places = c.insert.new.self }) name absent
    (updated name old c.insert.new.self (Some (length names))
    (subst (λ n. UpdatesBy (λ x y. slice_cmp nat_cmp x.items y.items) (λ k. slice_cmp nat_cmp name k.items) old c.insert.new.self (Some n)) last updates)) held
