use Rattle.std.proofs.Common.{codes, decimal}
use Rattle.compare_text.proofs.Growing.{three_counts}
use Rattle.compare_text.proofs.block.put_totals.Goals as goal

pub returns : goal.returns
returns c =
    three_counts c.args.text.now.items c.put_count.new.text.items c.put_count-2.new.text.items c.put_count-3.new.text.items c.push.new.self.items
    (codes "total equal ") (decimal c.args.totals.equal) (codes " differs ") (decimal c.args.totals.differs) (codes " refused ") (decimal c.args.totals.refused)
    c.in_ok-put_count.ensures c.in_ok-put_count-2.ensures c.in_ok-put_count-3.ensures c.in_ok-push.ensures.items
