use Rattle.std.proofs.Common.{◌≡◌, arith, length, sym}
use Rattle.csv.specs.Records.{fields_of}
use Rattle.waivers.proofs.Wrong.{at_none}
use Rattle.waivers.proofs.Entering.{all_five}
use Rattle.waivers.proofs.fields.Fields.of.Goals as goal

pub returns-in_err-get : goal.returns-in_err-get
returns-in_err-get c =
    rw c.from_residual.ensures (λ e. let h = at_none (fields_of c.args.row.now) 0 (sym (rw c.in_err-get.was at c.get.ensures.value)) in omega (arith, h, e))

pub returns-in_err-get-2 : goal.returns-in_err-get-2
returns-in_err-get-2 c =
    rw c.from_residual-in_err-get-2.ensures (λ e. let h = at_none (fields_of c.args.row.now) 1 (sym (rw c.in_err-get-2.was at c.get-2.ensures.value)) in omega (arith, h, e))

pub returns-in_err-get-3 : goal.returns-in_err-get-3
returns-in_err-get-3 c =
    rw c.from_residual-in_err-get-3.ensures (λ e. let h = at_none (fields_of c.args.row.now) 2 (sym (rw c.in_err-get-3.was at c.get-3.ensures.value)) in omega (arith, h, e))

pub returns-in_err-get-4 : goal.returns-in_err-get-4
returns-in_err-get-4 c =
    rw c.from_residual-in_err-get-4.ensures (λ e. let h = at_none (fields_of c.args.row.now) 3 (sym (rw c.in_err-get-4.was at c.get-4.ensures.value)) in omega (arith, h, e))

pub returns-in_err-get-5 : goal.returns-in_err-get-5
returns-in_err-get-5 c =
    rw c.from_residual-in_err-get-5.ensures (λ e. let h = at_none (fields_of c.args.row.now) 4 (sym (rw c.in_err-get-5.was at c.get-5.ensures.value)) in omega (arith, h, e))

pub returns : goal.returns
returns c =
    let five : length (fields_of c.args.row.now) ≡ 5 = omega arith in
    all_five (fields_of c.args.row.now) _ _ _ _ _ five
    (sym (rw c.in_ok-get.was at c.get.ensures.value))
    (sym (rw c.in_ok-get-2.was at c.get-2.ensures.value))
    (sym (rw c.in_ok-get-3.was at c.get-3.ensures.value))
    (sym (rw c.in_ok-get-4.was at c.get-4.ensures.value))
    (sym (rw c.in_ok-get-5.was at c.get-5.ensures.value))
