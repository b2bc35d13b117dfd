use Rattle.std.proofs.Common.{refl, ap, ◌∙◌, arith}
use Rattle.std.proofs.lemmas.List.{take_rest}
use Rattle.text_scan.specs.declared.token.Style.TheVariants.{Verilog}
use Rattle.text_scan.specs.Tokens.{tokens_of}
use Rattle.verilog_directives.specs.Lookahead.{to_come}
use Rattle.verilog_directives.proofs.Behinds.{begun_there, place_stands, is_place}
use Rattle.verilog_directives.proofs.lookahead.Lookahead.stand_at.Goals as goal

pub invariant_of-self : goal.invariant_of-self
invariant_of-self c =
    let text = c.args.self.now.source.now in
    let p = c.args.place in
    let rest = take_rest text p.at in
    record {
      within = c.requires.within;
      same = c.new.ensures.source ∙ rest;
      stand = place_stands text p c.new.result (c.new.ensures.left ∙ ap (tokens_of Verilog) rest) (is_place p c.requires.counted (omega arith) (omega arith));
      inside = refl;
    }

pub returns-clause-to_come : goal.returns-clause-to_come
unfolding to_come
returns-clause-to_come c =
    let text = c.args.self.now.source.now in
    let p = c.args.place in
    begun_there text p c.new.result (c.new.ensures.left ∙ ap (tokens_of Verilog) (take_rest text p.at)) (is_place p c.requires.counted (omega arith) (omega arith))
