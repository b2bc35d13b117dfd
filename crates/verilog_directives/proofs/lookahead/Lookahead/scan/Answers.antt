use Rattle.std.proofs.Common.{drop, subst, ◌∙◌, arith}
use Rattle.text_scan.specs.Left.{IsSliceOf}
use Rattle.verilog_directives.proofs.Behinds.{stand_on, moved_next, moved_stays, moved_slice, moved_bounds}
use Rattle.verilog_directives.proofs.lookahead.Lookahead.scan.Goals as goal

pub moved-requires : goal.moved-requires
moved-requires c =
    let self = c.args.self.now in
    let token = c.next_token-token in
    let slice : IsSliceOf (drop self.place.at self.source.now) token.result = subst (λ z. IsSliceOf z token.result) (token.ensures.source ∙ self.same) token.ensures.slice in
    let bounds = moved_bounds self.source.now self.place token.result self.within slice in
    record { start = omega arith; end = omega arith }

pub invariant_of-self : goal.invariant_of-self
invariant_of-self c =
    let self = c.args.self.now in
    let token = c.next_token-token in
    record {
      within = self.within;
      same = token.ensures.source ∙ self.same;
      stand = stand_on self.source.now self.place self.cursor token.new.self token.result self.stand token.ensures.next token.ensures.end_stays;
      inside = self.inside;
    }

pub returns-clause-next : goal.returns-clause-next
returns-clause-next c =
    let self = c.args.self.now in
    let token = c.next_token-token in
    moved_next self.place self.cursor token.new.self token.result c.moved.result token.ensures.next c.moved.ensures

pub returns-clause-end_stays : goal.returns-clause-end_stays
returns-clause-end_stays c =
    let self = c.args.self.now in
    let token = c.next_token-token in
    moved_stays self.place self.cursor token.new.self token.result c.moved.result token.ensures.end_stays c.moved.ensures

pub returns-clause-slice : goal.returns-clause-slice
returns-clause-slice c =
    let self = c.args.self.now in
    let token = c.next_token-token in
    let slice : IsSliceOf (drop self.place.at self.source.now) token.result = subst (λ z. IsSliceOf z token.result) (token.ensures.source ∙ self.same) token.ensures.slice in
    moved_slice self.source.now self.place token.result c.moved.result self.within slice c.moved.ensures
