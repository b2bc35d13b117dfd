use Rattle.std.proofs.Common.{◌++◌, sym, ap, ◌∙◌}
use Rattle.std.proofs.lemmas.List.{drop-append-le}
use Rattle.verilog_directives.specs.Behind.{moved_on}
use Rattle.verilog_directives.specs.Held.{tokens}
use Rattle.verilog_directives.specs.Lookahead.{to_come}
use Rattle.verilog_directives.proofs.Looks.{inside_drop}
use Rattle.verilog_directives.proofs.lookahead.Lookahead.skip.Goals as goal

pub invariant_of-self-clause-inside : goal.invariant_of-self-clause-inside
invariant_of-self-clause-inside c = inside_drop _ c.args.n c.args.self.now.held _ c.args.self.now.inside c.without-self.ensures

pub returns-clause-to_come : goal.returns-clause-to_come
unfolding to_come
returns-clause-to_come c =
    let self = c.args.self.now in
    ap (λ z. z ++ moved_on self.place self.cursor) c.without-self.ensures ∙ sym (drop-append-le c.args.n (tokens self.held) (moved_on self.place self.cursor) c.requires)
