use Rattle.std.proofs.Common.{◌≡◌, Err, rules, arith}
use Rattle.csv.specs.Records.{fields_of}
use Rattle.csv_records.proofs.Whole.{starts, goes_on, ends, refused, passed}
use Rattle.csv_records.proofs.reading.read_records.Goals as goal

pub loop-count-init : goal.loop-count-init
loop-count-init g c =
    starts g.M.Entries.holds (g.M.Entries.refuses c.args.limits.now) c.args.text.now c.args.limits.now c.open-reader.result c.args.made c.open-reader.ensures c.requires

pub loop-count-preserved : goal.loop-count-preserved
loop-count-preserved g c =
    let s = c.loop-count.invariant in
    goes_on g.M.Entries.holds (g.M.Entries.refuses c.args.limits.now) c.args.text.now c.args.limits.now c.loop-count.count
    c.loop-count.reader c.next_row.new.reader c.loop-count.made c.enter.new.self (fields_of c.next_row.new.row) s
    (omega arith) (rw c.if-not-found.false at (c.in_ok-found.ensures s.rest s.left))
    (c.in_ok-enter.ensures s.done s.held (omega (arith, s.counted)))

pub returns-in_err-found : goal.returns-in_err-found
returns-in_err-found g c =
    let s : c.from_residual.result ≡ Err c.in_err-found.field-0.0 = search rules in
    rw (s, c.in_err-found.ensures c.loop-count.invariant.rest c.loop-count.invariant.left) tt

pub returns-then-not-found : goal.returns-then-not-found
returns-then-not-found g c =
    let s = c.loop-count.invariant in
    ends g.M.Entries.holds (g.M.Entries.refuses c.args.limits.now) c.args.text.now c.args.limits.now c.loop-count.count
    c.loop-count.reader c.next_row.new.reader c.loop-count.made (fields_of c.next_row.new.row) s
    (rw c.if-not-found.true at (c.in_ok-found.ensures s.rest s.left))

pub returns-in_err-enter : goal.returns-in_err-enter
returns-in_err-enter g c =
    let s = c.loop-count.invariant in
    let r : c.from_residual-in_err-enter.result ≡ Err c.in_err-enter.field-0.0 = search rules in
    rw r (
    refused g.M.Entries.holds (g.M.Entries.refuses c.args.limits.now) c.args.text.now c.args.limits.now c.loop-count.count
    c.loop-count.reader c.next_row.new.reader c.loop-count.made (fields_of c.next_row.new.row) s c.in_err-enter.field-0.0
    (omega arith) (rw c.if-not-found.false at (c.in_ok-found.ensures s.rest s.left))
    (c.in_err-enter.ensures s.done s.held (omega (arith, s.counted)))
    )

pub returns-in_err-more : goal.returns-in_err-more
returns-in_err-more g c =
    let s : c.from_residual-in_err-more.result ≡ Err c.in_err-more.field-0.0 = search rules in
    rw (s, c.in_err-more.ensures c.loop-count.invariant.rest c.loop-count.invariant.left) tt

pub returns-then-more : goal.returns-then-more
returns-then-more g c =
    let s = c.loop-count.invariant in
    rw c.too_many.ensures (
    passed g.M.Entries.holds (g.M.Entries.refuses c.args.limits.now) c.args.text.now c.args.limits.now c.loop-count.count
    c.loop-count.reader c.next_row-2.new.reader c.loop-count.made (fields_of c.next_row-2.new.row) s
    (omega arith) (rw c.if-more.true at (c.in_ok-more.ensures s.rest s.left))
    )

pub returns : goal.returns
returns g c =
    let s = c.loop-count.invariant in
    ends g.M.Entries.holds (g.M.Entries.refuses c.args.limits.now) c.args.text.now c.args.limits.now c.loop-count.count
    c.loop-count.reader c.next_row-2.new.reader c.loop-count.made (fields_of c.next_row-2.new.row) s
    (rw c.if-more.false at (c.in_ok-more.ensures s.rest s.left))
