use Rattle.std.proofs.Common.{refl, sym, subst, ◌∙◌}
use Rattle.verilog_directives.specs.Lookahead.{to_come}
use Rattle.verilog_directives.specs.Directives.{source}
use Rattle.verilog_directives.specs.Skims.{Skims}
use Rattle.verilog_directives.proofs.Fillers.{nothing_gone, gone_over}
use Rattle.verilog_directives.proofs.directives.Directives.skim.Goals as goal

pub returns-then-is_read-clause-source : goal.returns-then-is_read-clause-source
unfolding source
returns-then-is_read-clause-source c = c.skim.ensures.source

pub returns-then-is_read-clause-skims : goal.returns-then-is_read-clause-skims
returns-then-is_read-clause-skims c =
    let self = c.args.self.now in
    let skims : Skims self.tokens.source.now c.number.result (to_come self.tokens) (to_come c.skim.new.self) = c.skim.ensures.skims in
    gone_over self _ (sym c.is_read.ensures ∙ c.if-is_read.true) c.skim.ensures.source refl refl
    (subst (λ z. Skims self.tokens.source.now z (to_come self.tokens) (to_come c.skim.new.self)) c.number.ensures skims)

pub returns-else-is_read-clause-skims : goal.returns-else-is_read-clause-skims
returns-else-is_read-clause-skims c = nothing_gone c.args.self.now
