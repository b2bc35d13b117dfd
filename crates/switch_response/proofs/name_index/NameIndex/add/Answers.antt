use Rattle.std.proofs.Common.{◌≡◌, Some, rules, subst}
use Rattle.std.specs.Ordering.{nat_cmp}
use Rattle.std.specs.Cmp.Lexicographic.{slice_cmp}
use Rattle.std.specs.BTreeMap.{UpdatesBy}
use Rattle.switch_response.proofs.NameKeys.{updated}
use Rattle.switch_response.proofs.name_index.NameIndex.add.Goals as goal

pub returns : goal.returns
returns c =
    let same : c.in_ok-to_vec.field-0.items ≡ c.args.name.now = search rules in (
      search rules,
      updated c.args.name.now c.args.self.now.places c.insert.new.self (Some c.args.place)
          (subst (λ bs. UpdatesBy (λ x y. slice_cmp nat_cmp x.items y.items) (λ k. slice_cmp nat_cmp bs k.items) c.args.self.now.places c.insert.new.self (Some c.args.place)) same c.in_ok-insert.ensures.updates),
    )
