use Rattle.std.proofs.Common.{◌≡◌, refl, Some, rules, subst}
use Rattle.std.specs.Ordering.{nat_cmp}
use Rattle.std.specs.Cmp.Lexicographic.{slice_cmp}
use Rattle.std.specs.BTreeMap.{UpdatesBy}
use Rattle.pin_tables.specs.declared.table.Role.{Role}
use Rattle.pin_tables.proofs.Names.{updated}
use Rattle.pin_tables.proofs.Indexes.{adds_new}
use Rattle.pin_tables.proofs.index.PinIndex.insert.Goals as goal

pub returns : goal.returns
returns c =
    let name = c.args.name.now in
    let role : Role = record { direction = c.args.direction; kind = c.args.kind } in
    let same : c.in_ok-to_vec.field-0.items ≡ name = search rules in
    adds_new c.args.self.now (record { roles = c.insert.new.self }) (record { name = name; direction = c.args.direction; kind = c.args.kind }) role refl (search rules)
    (updated name c.args.self.now.roles c.insert.new.self (Some role)
    (subst (λ bs. UpdatesBy (λ x y. slice_cmp nat_cmp x.items y.items) (λ k. slice_cmp nat_cmp bs k.items) c.args.self.now.roles c.insert.new.self (Some role)) same c.in_ok-insert.ensures.updates))
