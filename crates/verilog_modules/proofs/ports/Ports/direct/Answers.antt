use Rattle.std.proofs.Common.{rules, sym, ap, ◌∙◌, ◌≡◌, ◌<◌, length, Some}
use Rattle.name_index.specs.Places.{place_of}
use Rattle.verilog_modules.specs.Ports.{directed}
use Rattle.verilog_modules.proofs.PortLists.{names_stay, directed_so}
use Rattle.verilog_modules.proofs.ports.Ports.direct.Goals as goal

pub invariant_of-self : goal.invariant_of-self
invariant_of-self c =
    let below : c.in-Some.at < length c.self.inside.ports.items = search rules in
    names_stay c.self.inside.ports.items c.self.inside.names c.in-Some.at c.index_mut.result.now c.args.direction c.self.invariant below c.index_mut.ensures.value

pub returns-else-not-is_absent : goal.returns-else-not-is_absent
returns-else-not-is_absent c =
    let below : c.in-Some.at < length c.self.inside.ports.items = search rules in
    let place : place_of c.self.inside.names c.args.name.now ≡ Some c.in-Some.at = search rules in
    ap (λ z. directed z c.args.name.now c.args.direction) (sym c.self.view_is)
    ∙ directed_so c.self.inside.ports.items c.self.inside.names c.args.name.now c.in-Some.at c.index.result.now c.index_mut.result.now c.args.direction c.self.invariant place below c.index.ensures c.index_mut.ensures.value (sym c.is_absent.ensures ∙ c.if-not-is_absent.false)
