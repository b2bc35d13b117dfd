use Rattle.std.proofs.Common.{◌≡◌, ◌+◌, ◌-◌, [], List, ℕ, min, length, take, get_or, refl, inl, inr, ⊎_elim, subst, sym, ap, ◌∙◌, arith}
use Rattle.std.specs.Prelude.{Option, IsTrue, is_some, Result, Err}
use Rattle.report_journal.specs.Image.{plain_head, header, IsShut, IsLaidOut, StandsFor}
use Rattle.report_journal.specs.Steps.{IsNew}
use Rattle.report_journal.specs.Cause.{IsFailed}
use Rattle.report_journal.specs.declared.opening.OpenError.{OpenError}
use Rattle.report_journal.specs.declared.opening.OpenError.TheVariants.{Failed}
use Rattle.report_journal.specs.declared.walk.End.{End}
use Rattle.report_journal.proofs.Front.{IsFront, begins, is_no_journal, front_take, judged, key_size, stuck}
use Rattle.report_journal.proofs.Moments.{adds_then, told_now}
use Rattle.report_journal.proofs.Single.{one_refusal, none_refused}
use Rattle.report_journal.proofs.Spending.{spends_then, costs_then, call_costs}
use Rattle.report_journal.proofs.opening.open.Goals as goal

same_failure : (result : Result End OpenError) (refusal : OpenError) → result ≡ Err refusal → refusal ≡ Failed → IsFailed result
same_failure result refusal is failed = is ∙ ap (λ (r : OpenError). Err r) failed

pub make_header-requires-clause-new : goal.make_header-requires-clause-new
make_header-requires-clause-new g c = λ bytes told.
    let known = sym c.settle.ensures.bytes ∙ sym c.read_at.ensures.untouched.bytes ∙ told in
    let here = c.settle.ensures.bytes ∙ known in
    let front : IsFront c.read_at.new.room bytes c.in_ok-read_at.field-0 = record {
      size = c.read_at.auto.room;
      many = c.in_ok-read_at.ensures.many bytes here ∙ ap (λ (n : ℕ). min n (length bytes - 0)) c.read_at.auto.room;
      same = c.in_ok-read_at.ensures.bytes bytes here;
    } in
    let size = c.in_ok-size.ensures.size bytes known in
    let new = is_no_journal _ bytes _ front (subst (λ (n : ℕ). IsNew n (get_or c.read_at.new.room 0 0)) size (c.is_new.ensures.0 c.if-is_new.true)) in
    (new, size, begins _ bytes _ front)

pub returns-in_err-make_header-clause-any_moment :
    goal.returns-in_err-make_header-clause-any_moment
returns-in_err-make_header-clause-any_moment g c = λ bytes known.
    let here = c.settle.ensures.bytes ∙ known in
    let front : IsFront c.read_at.new.room bytes c.in_ok-read_at.field-0 = record {
      size = c.read_at.auto.room;
      many = c.in_ok-read_at.ensures.many bytes here ∙ ap (λ (n : ℕ). min n (length bytes - 0)) c.read_at.auto.room;
      same = c.in_ok-read_at.ensures.bytes bytes here;
    } in
    let size = c.in_ok-size.ensures.size bytes known in
    let there = c.read_at.ensures.untouched.bytes ∙ here in
    let new = is_no_journal _ bytes _ front (subst (λ (n : ℕ). IsNew n (get_or c.read_at.new.room 0 0)) size (c.is_new.ensures.0 c.if-is_new.true)) in
    let looked = adds_then _ _ _ _ _ _ _ (g.D.Disk.image c.args.disk.now) c.settle.ensures.any_moment c.read_at.ensures.untouched.time (λ x is. is) (λ x is. c.settle.ensures.images x is) in
    adds_then _ _ _ _ _ _ _ _ looked (c.make_header.ensures.any_moment bytes there) (λ x is. inl is) (λ x is. inr (new, is))

pub returns-then-is_new-clause-any_moment : goal.returns-then-is_new-clause-any_moment
returns-then-is_new-clause-any_moment g c = λ bytes known.
    let here = c.settle.ensures.bytes ∙ known in
    let front : IsFront c.read_at.new.room bytes c.in_ok-read_at.field-0 = record {
      size = c.read_at.auto.room;
      many = c.in_ok-read_at.ensures.many bytes here ∙ ap (λ (n : ℕ). min n (length bytes - 0)) c.read_at.auto.room;
      same = c.in_ok-read_at.ensures.bytes bytes here;
    } in
    let size = c.in_ok-size.ensures.size bytes known in
    let there = c.read_at.ensures.untouched.bytes ∙ here in
    let new = is_no_journal _ bytes _ front (subst (λ (n : ℕ). IsNew n (get_or c.read_at.new.room 0 0)) size (c.is_new.ensures.0 c.if-is_new.true)) in
    let looked = adds_then _ _ _ _ _ _ _ (g.D.Disk.image c.args.disk.now) c.settle.ensures.any_moment c.read_at.ensures.untouched.time (λ x is. is) (λ x is. c.settle.ensures.images x is) in
    adds_then _ _ _ _ _ _ _ _ looked (c.make_header.ensures.any_moment bytes there) (λ x is. inl is) (λ x is. inr (new, is))

pub returns-then-is_new-clause-opened : goal.returns-then-is_new-clause-opened
returns-then-is_new-clause-opened g c = λ bytes known.
    let here = c.settle.ensures.bytes ∙ known in
    let front : IsFront c.read_at.new.room bytes c.in_ok-read_at.field-0 = record {
      size = c.read_at.auto.room;
      many = c.in_ok-read_at.ensures.many bytes here ∙ ap (λ (n : ℕ). min n (length bytes - 0)) c.read_at.auto.room;
      same = c.in_ok-read_at.ensures.bytes bytes here;
    } in
    let size = c.in_ok-size.ensures.size bytes known in
    let there = c.read_at.ensures.untouched.bytes ∙ here in
    let new = is_no_journal _ bytes _ front (subst (λ (n : ℕ). IsNew n (get_or c.read_at.new.room 0 0)) size (c.is_new.ensures.0 c.if-is_new.true)) in (
      [],
      inr (new, refl),
      record {
        bytes = _;
        holds = c.in_ok-make_header.ensures.made bytes there;
        at = record { stands = c.in_ok-make_header.ensures.empty; place_is = refl; count_is = refl };
      },
    )

pub returns-then-is_new-clause-refuses : goal.returns-then-is_new-clause-refuses
returns-then-is_new-clause-refuses g c = λ bytes known e refuses.
    let here = c.settle.ensures.bytes ∙ known in
    let front : IsFront c.read_at.new.room bytes c.in_ok-read_at.field-0 = record {
      size = c.read_at.auto.room;
      many = c.in_ok-read_at.ensures.many bytes here ∙ ap (λ (n : ℕ). min n (length bytes - 0)) c.read_at.auto.room;
      same = c.in_ok-read_at.ensures.bytes bytes here;
    } in
    let size = c.in_ok-size.ensures.size bytes known in
    let new = is_no_journal _ bytes _ front (subst (λ (n : ℕ). IsNew n (get_or c.read_at.new.room 0 0)) size (c.is_new.ensures.0 c.if-is_new.true)) in
    absurd (none_refused c.args.digest bytes [] e (inr (new, refl)) refuses)

pub returns-in-Err-clause-refused : goal.returns-in-Err-clause-refused
returns-in-Err-clause-refused g c = λ bytes known.
    let here = c.settle.ensures.bytes ∙ known in
    let front : IsFront c.read_at.new.room bytes c.in_ok-read_at.field-0 = record {
      size = c.read_at.auto.room;
      many = c.in_ok-read_at.ensures.many bytes here ∙ ap (λ (n : ℕ). min n (length bytes - 0)) c.read_at.auto.room;
      same = c.in_ok-read_at.ensures.bytes bytes here;
    } in
    let size = c.in_ok-size.ensures.size bytes known in
    let old : IsNew (length bytes) (get_or c.read_at.new.room 0 0) → ⊥ = λ new. absurd (cc (c.if-is_new.false, c.is_new.ensures.1 (subst (λ (n : ℕ). IsNew n (get_or c.read_at.new.room 0 0)) (sym size) new))) in
    let mine = judged _ bytes _ front old c.args.digest c.in-Err.refusal (omega (arith, size, c.if-size-gt-MAX_SIZE.false)) c.in-Err.ensures.err in
    inr (mine, c.read_at.ensures.untouched.bytes ∙ c.settle.ensures.bytes)

pub returns-in-Err-clause-refuses : goal.returns-in-Err-clause-refuses
returns-in-Err-clause-refuses g c = λ bytes known e refuses.
    let here = c.settle.ensures.bytes ∙ known in
    let front : IsFront c.read_at.new.room bytes c.in_ok-read_at.field-0 = record {
      size = c.read_at.auto.room;
      many = c.in_ok-read_at.ensures.many bytes here ∙ ap (λ (n : ℕ). min n (length bytes - 0)) c.read_at.auto.room;
      same = c.in_ok-read_at.ensures.bytes bytes here;
    } in
    let size = c.in_ok-size.ensures.size bytes known in
    let old : IsNew (length bytes) (get_or c.read_at.new.room 0 0) → ⊥ = λ new. absurd (cc (c.if-is_new.false, c.is_new.ensures.1 (subst (λ (n : ℕ). IsNew n (get_or c.read_at.new.room 0 0)) (sym size) new))) in
    let mine = judged _ bytes _ front old c.args.digest c.in-Err.refusal (omega (arith, size, c.if-size-gt-MAX_SIZE.false)) c.in-Err.ensures.err in
    inl (ap (λ (r : OpenError). Err r) (one_refusal c.args.digest bytes c.in-Err.refusal e mine refuses))

pub returns-in-Ok-clause-opened : goal.returns-in-Ok-clause-opened
returns-in-Ok-clause-opened g c = λ bytes known.
    let here = c.settle.ensures.bytes ∙ known in
    let front : IsFront c.read_at.new.room bytes c.in_ok-read_at.field-0 = record {
      size = c.read_at.auto.room;
      many = c.in_ok-read_at.ensures.many bytes here ∙ ap (λ (n : ℕ). min n (length bytes - 0)) c.read_at.auto.room;
      same = c.in_ok-read_at.ensures.bytes bytes here;
    } in
    let size = c.in_ok-size.ensures.size bytes known in
    let there = c.read_at.ensures.untouched.bytes ∙ here in
    let old : IsNew (length bytes) (get_or c.read_at.new.room 0 0) → ⊥ = λ new. absurd (cc (c.if-is_new.false, c.is_new.ensures.1 (subst (λ (n : ℕ). IsNew n (get_or c.read_at.new.room 0 0)) (sym size) new))) in
    let header_is : take 41 bytes ≡ header c.args.digest = sym (front_take _ bytes _ front old 41 (omega arith)) ∙ c.in_default.ensures.ok in
    let ends = c.in-Ok.ensures.ends bytes there in
    let stands : StandsFor c.args.digest bytes ends.blocks = record {
      key_size = key_size _ bytes _ front old c.args.digest header_is;
      laid_out = subst (λ (l : List ℕ). IsLaidOut l plain_head IsShut bytes ends.blocks) header_is ends.laid_out;
      size = omega (arith, size, c.if-size-gt-MAX_SIZE.false);
    } in
    let settled = c.in_ok-size.ensures.settled bytes known in (
      ends.blocks,
      inl stands,
      record {
        bytes = bytes;
        holds = record {
          reads_them = c.walk.ensures.untouched.bytes ∙ there;
          only = λ x is. settled.only x (c.read_at.ensures.untouched.no_other x (c.walk.ensures.untouched.no_other x is));
        };
        at = record { stands = stands; place_is = ends.place_is; count_is = ends.count_is };
      },
    )

pub returns-in-Ok-clause-refuses : goal.returns-in-Ok-clause-refuses
returns-in-Ok-clause-refuses g c = λ bytes known e refuses.
    let here = c.settle.ensures.bytes ∙ known in
    let front : IsFront c.read_at.new.room bytes c.in_ok-read_at.field-0 = record {
      size = c.read_at.auto.room;
      many = c.in_ok-read_at.ensures.many bytes here ∙ ap (λ (n : ℕ). min n (length bytes - 0)) c.read_at.auto.room;
      same = c.in_ok-read_at.ensures.bytes bytes here;
    } in
    let size = c.in_ok-size.ensures.size bytes known in
    let there = c.read_at.ensures.untouched.bytes ∙ here in
    let old : IsNew (length bytes) (get_or c.read_at.new.room 0 0) → ⊥ = λ new. absurd (cc (c.if-is_new.false, c.is_new.ensures.1 (subst (λ (n : ℕ). IsNew n (get_or c.read_at.new.room 0 0)) (sym size) new))) in
    let header_is : take 41 bytes ≡ header c.args.digest = sym (front_take _ bytes _ front old 41 (omega arith)) ∙ c.in_default.ensures.ok in
    let ends = c.in-Ok.ensures.ends bytes there in
    let stands : StandsFor c.args.digest bytes ends.blocks = record {
      key_size = key_size _ bytes _ front old c.args.digest header_is;
      laid_out = subst (λ (l : List ℕ). IsLaidOut l plain_head IsShut bytes ends.blocks) header_is ends.laid_out;
      size = omega (arith, size, c.if-size-gt-MAX_SIZE.false);
    } in
    absurd (none_refused c.args.digest bytes ends.blocks e (inl stands) refuses)

pub returns-in-Ok-clause-costs : goal.returns-in-Ok-clause-costs
returns-in-Ok-clause-costs g c = λ bytes known most at_most.
    let here = c.settle.ensures.bytes ∙ known in
    let there = c.read_at.ensures.untouched.bytes ∙ here in
    let first = spends_then g.D.Disk.fails g.D.Disk.asked g.D.Disk.most c.args.disk.now c.settle.new.disk 2 0 0 (c.settle.ensures.costs bytes known).spends c.read_at.new.self 1 0 0 3 0 0
    (call_costs g.D.Disk.fails g.D.Disk.asked g.D.Disk.most c.settle.new.disk c.read_at.new.self c.read_at.result (c.read_at.ensures.answers bytes here) (c.read_at.ensures.asked bytes here) c.read_at.ensures.limits).spends
    (omega arith) (omega arith) (omega arith) (omega arith) in
    costs_then g.D.Disk.fails g.D.Disk.asked g.D.Disk.most c.args.disk.now c.read_at.new.self 3 0 0 first c.walk.new.disk (most + 1) 0 0 (most + 10) 43 42
    _ _ (c.walk.ensures.costs bytes there most at_most) (λ failed. absurd (cc (failed))) (omega arith) (omega arith) (omega arith) (omega arith)

pub returns-in-Err-walk-clause-refused : goal.returns-in-Err-walk-clause-refused
returns-in-Err-walk-clause-refused g c = λ bytes known.
    let here = c.settle.ensures.bytes ∙ known in
    let front : IsFront c.read_at.new.room bytes c.in_ok-read_at.field-0 = record {
      size = c.read_at.auto.room;
      many = c.in_ok-read_at.ensures.many bytes here ∙ ap (λ (n : ℕ). min n (length bytes - 0)) c.read_at.auto.room;
      same = c.in_ok-read_at.ensures.bytes bytes here;
    } in
    let size = c.in_ok-size.ensures.size bytes known in
    let there = c.read_at.ensures.untouched.bytes ∙ here in
    let old : IsNew (length bytes) (get_or c.read_at.new.room 0 0) → ⊥ = λ new. absurd (cc (c.if-is_new.false, c.is_new.ensures.1 (subst (λ (n : ℕ). IsNew n (get_or c.read_at.new.room 0 0)) (sym size) new))) in
    let header_is : take 41 bytes ≡ header c.args.digest = sym (front_take _ bytes _ front old 41 (omega arith)) ∙ c.in_default.ensures.ok in
    let why = stuck _ bytes _ front old c.args.digest c.in-Err-walk.refusal (omega (arith, size, c.if-size-gt-MAX_SIZE.false)) header_is (c.in-Err-walk.ensures.stuck bytes there) in
    ⊎_elim (λ failed. inl failed) (λ refuses. inr (refuses, c.walk.ensures.untouched.bytes ∙ c.read_at.ensures.untouched.bytes ∙ c.settle.ensures.bytes)) why

pub returns-in-Err-walk-clause-refuses : goal.returns-in-Err-walk-clause-refuses
returns-in-Err-walk-clause-refuses g c = λ bytes known e refuses.
    let here = c.settle.ensures.bytes ∙ known in
    let front : IsFront c.read_at.new.room bytes c.in_ok-read_at.field-0 = record {
      size = c.read_at.auto.room;
      many = c.in_ok-read_at.ensures.many bytes here ∙ ap (λ (n : ℕ). min n (length bytes - 0)) c.read_at.auto.room;
      same = c.in_ok-read_at.ensures.bytes bytes here;
    } in
    let size = c.in_ok-size.ensures.size bytes known in
    let there = c.read_at.ensures.untouched.bytes ∙ here in
    let old : IsNew (length bytes) (get_or c.read_at.new.room 0 0) → ⊥ = λ new. absurd (cc (c.if-is_new.false, c.is_new.ensures.1 (subst (λ (n : ℕ). IsNew n (get_or c.read_at.new.room 0 0)) (sym size) new))) in
    let header_is : take 41 bytes ≡ header c.args.digest = sym (front_take _ bytes _ front old 41 (omega arith)) ∙ c.in_default.ensures.ok in
    let why = stuck _ bytes _ front old c.args.digest c.in-Err-walk.refusal (omega (arith, size, c.if-size-gt-MAX_SIZE.false)) header_is (c.in-Err-walk.ensures.stuck bytes there) in
    ⊎_elim (λ failed. inr (ap (λ (r : OpenError). Err r) failed)) (λ mine. inl (ap (λ (r : OpenError). Err r) (one_refusal c.args.digest bytes c.in-Err-walk.refusal e mine refuses))) why

pub returns-in-Err-walk-clause-costs : goal.returns-in-Err-walk-clause-costs
returns-in-Err-walk-clause-costs g c = λ bytes known most at_most.
    let here = c.settle.ensures.bytes ∙ known in
    let there = c.read_at.ensures.untouched.bytes ∙ here in
    let first = spends_then g.D.Disk.fails g.D.Disk.asked g.D.Disk.most c.args.disk.now c.settle.new.disk 2 0 0 (c.settle.ensures.costs bytes known).spends c.read_at.new.self 1 0 0 3 0 0
    (call_costs g.D.Disk.fails g.D.Disk.asked g.D.Disk.most c.settle.new.disk c.read_at.new.self c.read_at.result (c.read_at.ensures.answers bytes here) (c.read_at.ensures.asked bytes here) c.read_at.ensures.limits).spends
    (omega arith) (omega arith) (omega arith) (omega arith) in
    costs_then g.D.Disk.fails g.D.Disk.asked g.D.Disk.most c.args.disk.now c.read_at.new.self 3 0 0 first c.walk.new.disk (most + 1) 0 0 (most + 10) 43 42
    _ _ (c.walk.ensures.costs bytes there most at_most) (λ failed. same_failure c.walk.result c.in-Err-walk.refusal c.in-Err-walk.is (cc (failed))) (omega arith) (omega arith) (omega arith) (omega arith)

pub returns-in-Ok-clause-left : goal.returns-in-Ok-clause-left
returns-in-Ok-clause-left g c = record {
  keeps = λ tells.
      let was = told_now (g.D.Disk.reads c.args.disk.now) (subst (λ (reads : Option (List ℕ)). IsTrue (is_some reads)) (c.walk.ensures.untouched.bytes ∙ c.read_at.ensures.untouched.bytes ∙ c.settle.ensures.bytes) tells) in
      let opened = returns-in-Ok-clause-opened g c was.0 was.1 in
      (opened.0, opened.2);
}
