use Rattle.std.proofs.Common.{◌≤◌, ap, arith}
use Rattle.verilog_directives.specs.Conditions.{is_read}
use Rattle.verilog_directives.specs.Directives as spec
use Rattle.verilog_directives.specs.Left.{directive_turn}
use Rattle.verilog_directives.proofs.Orders.{asks_where_read}
use Rattle.verilog_directives.proofs.directives.Directives.order_of.Goals as goal

pub returns-in-Define-clause-asks : goal.returns-in-Define-clause-asks
unfolding directive_turn
returns-in-Define-clause-asks c =
    let self = c.args.self.now in
    let order = c.define-order in
    let some : 1 ≤ spec.held order.new.self = omega (arith, c.requires.held, order.ensures.looks.held) in
    let same = ap (λ z. is_read z.conditions) order.ensures.looks.state in
    rw (c.in-Define.is, c.where_read.ensures) (asks_where_read self.tokens.source.now (spec.state self) c.args.mark _ order.result _ _ same some order.ensures.asks)

pub returns-in-Undef-clause-asks : goal.returns-in-Undef-clause-asks
unfolding directive_turn
returns-in-Undef-clause-asks c =
    let self = c.args.self.now in
    let order = c.undef-order in
    let some : 1 ≤ spec.held order.new.self = omega (arith, c.requires.held, order.ensures.looks.held) in
    let same = ap (λ z. is_read z.conditions) order.ensures.looks.state in
    rw (c.in-Undef.is, c.where_read-in-Undef.ensures) (asks_where_read self.tokens.source.now (spec.state self) c.args.mark _ order.result _ _ same some order.ensures.asks)
