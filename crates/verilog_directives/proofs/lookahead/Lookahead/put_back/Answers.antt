use Rattle.verilog_directives.proofs.Looks.{inside_first, slice_inside}
use Rattle.verilog_directives.proofs.lookahead.Lookahead.put_back.Goals as goal

pub invariant_of-self-clause-inside : goal.invariant_of-self-clause-inside
invariant_of-self-clause-inside c =
    let self = c.args.self.now in
    inside_first _ self.held _ c.args.token self.inside (slice_inside self.source.now c.args.token c.requires.slice c.requires.no_end) c.with_first-self.ensures
