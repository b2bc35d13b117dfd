use Rattle.std.proofs.Common.{◌≡◌, ℕ, List, [], false, map, length, take, drop, ◌++◌, sym, ◌∙◌, ap, subst, arith, rules}
use Rattle.std.specs.Prelude.{replicate}
use Rattle.std.proofs.lemmas.List.{length-map, take_all, take-append-le}
use native.Mathlib.Decide.{dec_lt}
use Rattle.gate_settle.specs.declared.reach.Visit.{Visit}
use Rattle.gate_settle.specs.declared.reach.Visit.TheVariants.{New}
use Rattle.gate_settle.specs.Search.{IsSearch, is_new, visit_at}
use Rattle.gate_settle.proofs.Feeding.{search_begins}
use Rattle.gate_settle.proofs.reach.follow_all.Goals as goal

pub loop-net-init : goal.loop-net-init
loop-net-init c =
    let rows : List (List ℕ) = map (λ v. v.items) c.args.rows.now in
    let long : length rows ≡ length c.args.rows.now = length-map c.args.rows.now (λ v. v.items) in
    let fresh : c.in_ok-visits.visits.items ≡ replicate (length c.args.rows.now) New = search rules in
    record {
      search = search_begins rows c.in_ok-visits.visits.items (fresh ∙ ap (λ n. replicate n New) (sym long));
      met = λ k lt. absurd (omega (arith, lt));
    }

pub loop-net-preserved : goal.loop-net-preserved
loop-net-preserved c =
    let rows : List (List ℕ) = map (λ v. v.items) c.args.rows.now in
    let after : List Visit = c.follow.new.visits in
    let same : length after ≡ c.loop-net.visits.len = search rules in
    let back : take c.loop-net.visits.len (after ++ drop (length after) c.loop-net.visits.items) ≡ after =
    take-append-le c.loop-net.visits.len after (drop (length after) c.loop-net.visits.items) (omega arith) ∙ take_all c.loop-net.visits.len after (omega arith) in
    record {
      search = subst (λ vs. IsSearch rows vs c.in_ok-met.met []) (sym back) c.in_ok-met.ensures.search;
      met = λ k lt. subst (λ vs. is_new (visit_at vs k) ≡ false) (sym back) (elim (dec_lt k c.loop-net.net) [
        | yes h ↦ c.in_ok-met.ensures.kept k (subst (λ vs. is_new (visit_at vs k) ≡ false) (sym c.as_mut_slice.ensures.value) (c.loop-net.invariant.met k h))
        | no h ↦ let e : c.loop-net.net ≡ k = omega arith in subst (λ n. is_new (visit_at after n) ≡ false) e c.in_ok-met.ensures.met
      ]);
    }
