use Rattle.std.proofs.Common.{sym, ◌∙◌, ◌<◌, ◌+◌, ◌^◌, length, arith}
use Rattle.verilog_directives.specs.Directives.{source, left}
use Rattle.verilog_reader.proofs.Fillers.{skimmed_at, skimmed_measure}
use Rattle.verilog_reader.proofs.Whole.{at_start, bounded, goes_on, smaller, no_memory, told_err, whole, measure}
use Rattle.verilog_reader.proofs.reading.read_file.Goals as goal

pub items-init : goal.items-init
items-init c = record {
  text = c.new-directives.ensures.source;
  holds = at_start c.args.source.now c.args.limits.now c.new-reader.result (left c.new-directives.result) c.new-reader.ensures c.new-directives.ensures.left;
}

pub returns-in-Err : goal.returns-in-Err
returns-in-Err c = no_memory c.args.source.now c.args.limits.now

pub take-requires : goal.take-requires
take-requires c =
    let text = c.args.source.now in
    let small : length text + 2 < 2 ^ 64 = omega arith in
    let holds = skimmed_at text c.args.limits.now (source c.items.directives) c.items.reader (left c.items.directives) (left c.skim.new.directives) c.items.invariant.text c.items.invariant.holds c.skim.ensures.skimmed in
    bounded text c.args.limits.now c.items.reader c.in-Ok.item (left c.skim.new.directives) (left c.next.new.self) holds c.in-Ok.ensures.next (sym c.is_done.ensures ∙ c.items-test.true) small

pub items-smaller : goal.items-smaller
items-smaller c =
    let text = c.args.source.now in
    let less : measure text c.args.limits.now c.take.new.self.phase (left c.next.new.self) < measure text c.args.limits.now c.items.reader.phase (left c.skim.new.directives)
    = smaller text c.args.limits.now c.items.reader c.take.new.self c.in-Ok.item (left c.skim.new.directives) (left c.next.new.self) c.in-Ok.ensures.next c.in-Ok.ensures.last_stays (sym c.is_done.ensures ∙ c.items-test.true) c.in_default.ensures in
    let fewer = skimmed_measure text c.args.limits.now (source c.items.directives) c.items.reader (left c.items.directives) (left c.skim.new.directives) c.skim.ensures.skimmed in
    omega arith

pub items-preserved : goal.items-preserved
items-preserved c =
    let text = c.args.source.now in
    let holds = skimmed_at text c.args.limits.now (source c.items.directives) c.items.reader (left c.items.directives) (left c.skim.new.directives) c.items.invariant.text c.items.invariant.holds c.skim.ensures.skimmed in
    record {
      text = c.in-Ok.ensures.source ∙ c.skim.ensures.source ∙ c.items.invariant.text;
      holds = goes_on text c.args.limits.now c.items.reader c.take.new.self c.in-Ok.item (left c.skim.new.directives) (left c.next.new.self) holds c.in-Ok.ensures.next c.in-Ok.ensures.last_stays (sym c.is_done.ensures ∙ c.items-test.true) c.in_default.ensures;
    }

pub returns-in-Err-take : goal.returns-in-Err-take
returns-in-Err-take c =
    let text = c.args.source.now in
    let holds = skimmed_at text c.args.limits.now (source c.items.directives) c.items.reader (left c.items.directives) (left c.skim.new.directives) c.items.invariant.text c.items.invariant.holds c.skim.ensures.skimmed in
    told_err text c.args.limits.now (Unit {0}) c.in-Err-take.refusal c.items.reader c.take.new.self c.in-Ok.item (left c.skim.new.directives) (left c.next.new.self) holds c.in-Ok.ensures.next (sym c.is_done.ensures ∙ c.items-test.true) c.in-Err-take.ensures

pub returns : goal.returns
returns c =
    whole c.args.source.now c.args.limits.now c.items.reader (left c.items.directives) c.into_text.result c.items.invariant.holds (sym c.is_done.ensures ∙ c.items-test.false) c.into_text.ensures
