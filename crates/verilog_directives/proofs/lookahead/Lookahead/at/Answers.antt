use Rattle.std.proofs.Common.{◌≡◌, length, arith, ap, ◌∙◌}
use Rattle.std.specs.Prelude.{slice_get}
use Rattle.verilog_directives.specs.Held.{tokens}
use Rattle.verilog_directives.specs.Lookahead.{to_come}
use Rattle.verilog_directives.proofs.Looks.{held_inside, inside_slice, none_past}
use Rattle.verilog_directives.proofs.lookahead.Lookahead.at.Goals as goal

pub returns-in-Some-clause-slice : goal.returns-in-Some-clause-slice
returns-in-Some-clause-slice c =
    let self = c.args.self.now in
    inside_slice self.source.now c.in-Some.token (held_inside _ self.held c.args.place c.in-Some.token self.inside c.in-Some.ensures)

pub returns-in-None-clause-value : goal.returns-in-None-clause-value
returns-in-None-clause-value c =
    let past = none_past (tokens c.args.self.now.held) c.args.place c.in-None.ensures in
    let same : c.args.place ≡ length (tokens c.args.self.now.held) = omega arith in
    ap (slice_get (to_come c.hold_next.new.self)) same ∙ c.hold_next.ensures.value
