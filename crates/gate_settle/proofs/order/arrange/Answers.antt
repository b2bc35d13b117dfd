use Rattle.std.proofs.Common.{◌≡◌, ◌+◌, ◌*◌, ◌-◌, ◌<◌, ◌≤◌, ℕ, List, Bool, [], ◌∷◌, ◌++◌, true, length, map, take, drop, sym, ◌∙◌, ap, subst, length-append, arith, rules}
use Rattle.std.specs.Prelude.{slice_set, slice_index_or}
use Rattle.std.proofs.lemmas.List.{length-map, take_all, take-append-le}
use Rattle.gate_settle.specs.declared.gate.Gate.{Gate}
use Rattle.gate_settle.specs.declared.order.Waiter.{Waiter}
use Rattle.gate_settle.specs.declared.order.Missing.{Missing}
use Rattle.gate_settle.specs.Order.{all_known, none_ready, marked, known_at_first}
use Rattle.gate_settle.specs.Waiting.{AllScanned, IsMissing, woken, emptied}
use Rattle.gate_settle.proofs.Waiting.{IsSorting, sorting_begins, sorting_waits, sorting_takes, sorting_count, sorting_long, scanned_last, none_of_rows, fewer}
use Rattle.gate_settle.proofs.order.arrange.Goals as goal

-- a vector whose slice was written to
back : {X : Type 0} (n : ℕ) (xs rest : List X) → length xs ≡ n → take n (xs ++ rest) ≡ xs
back n xs rest e = take-append-le n xs rest (omega arith) ∙ take_all n xs (omega arith)

pub loop-waiter-init : goal.loop-waiter-init
loop-waiter-init c =
    let all : List Gate = c.args.gates.items in
    let fresh : List Waiter = c.in_ok-fresh.fresh.items in
    let rows : List (List Waiter) = map (λ v. v.items) c.in_ok-rows.rows.items in
    let known : c.in_ok-known.known.items ≡ known_at_first c.args.nets all = c.in_ok-known.ensures ∙ ap (known_at_first c.args.nets) c.deref.ensures.value in
    subst (λ gs. IsSorting c.args.nets all gs c.in_ok-known.known.items fresh rows) (sym c.new-sorted.ensures.items)
    (subst (λ ks. IsSorting c.args.nets all [] ks fresh rows) (sym known)
    (sorting_begins c.args.nets all fresh rows (λ f. c.in_ok-fresh.ensures.gates f) (c.in_ok-fresh.ensures.scanned (known_at_first c.args.nets all)) c.in_ok-rows.ensures))

pub next_missing-requires : goal.next_missing-requires
next_missing-requires c =
    let w : Waiter = c.in-Some.waiter in
    let popped : c.loop-waiter.fresh.items ≡ c.pop.new.self.items ++ w ∷ [] = c.in-Some.ensures.items in
    let front : all_known c.loop-waiter.known.items (take w.input w.gate.inputs) ≡ true = scanned_last c.loop-waiter.known.items c.pop.new.self.items w (subst (AllScanned c.loop-waiter.known.items) popped c.loop-waiter.invariant.scanned) in
    subst (λ ks. all_known ks (take w.input c.as_slice-in-Some.result.now) ≡ true) (sym c.as_slice.ensures.value)
    (subst (λ xs. all_known c.loop-waiter.known.items (take w.input xs) ≡ true) (sym c.as_slice-in-Some.ensures) front)

pub wait-requires : goal.wait-requires
wait-requires c =
    let long = sorting_long c.args.nets c.args.gates.items c.loop-waiter.sorted.items c.loop-waiter.known.items c.loop-waiter.fresh.items (map (λ v. v.items) c.loop-waiter.rows.items) c.loop-waiter.invariant in
    let rows = length-map c.loop-waiter.rows.items (λ v. v.items) in
    let slice = ap length c.as_mut_slice.ensures.value in
    let known = ap length c.as_slice.ensures.value in
    omega (arith, c.in-Some-next_missing.ensures.within, long, rows, slice, known)

pub loop-waiter-preserved-in-Continue-branch-4 : goal.loop-waiter-preserved-in-Continue-branch-4
loop-waiter-preserved-in-Continue-branch-4 c =
    let all : List Gate = c.args.gates.items in
    let sorted : List Gate = c.loop-waiter.sorted.items in
    let known : List Bool = c.loop-waiter.known.items in
    let fresh : List Waiter = c.pop.new.self.items in
    let rows : List (List Waiter) = map (λ v. v.items) c.loop-waiter.rows.items in
    let w : Waiter = c.in-Some.waiter in
    let m : Missing = c.in-Some-next_missing.field-0 in
    let v : Waiter = record { gate = w.gate; input = m.input } in
    let popped : c.loop-waiter.fresh.items ≡ fresh ++ w ∷ [] = c.in-Some.ensures.items in
    let before : IsSorting c.args.nets all sorted known (fresh ++ w ∷ []) rows = subst (λ fs. IsSorting c.args.nets all sorted known fs rows) popped c.loop-waiter.invariant in
    let missing : IsMissing known w.gate.inputs m = subst (λ ks. IsMissing ks w.gate.inputs m) c.as_slice.ensures.value (subst (λ xs. IsMissing c.as_slice.result.now xs m) c.as_slice-in-Some.ensures c.in-Some-next_missing.ensures) in
    let long : length known ≡ length rows = sorting_long c.args.nets all sorted known (fresh ++ w ∷ []) rows before in
    let lt : m.net < length rows = omega (arith, missing.within, long) in
    let after : map (λ v. v.items) c.wait.new.rows ≡ slice_set rows m.net (slice_index_or rows m.net [] ++ v ∷ []) =
    subst (λ rs. map (λ v. v.items) c.wait.new.rows ≡ slice_set (map (λ v. v.items) rs) m.net (slice_index_or (map (λ v. v.items) rs) m.net [] ++ v ∷ [])) c.as_mut_slice.ensures.value c.in_ok-wait-in-Some-next_missing.ensures in
    let same : length c.wait.new.rows ≡ c.loop-waiter.rows.len = search rules in
    subst (λ rs. IsSorting c.args.nets all sorted known fresh (map (λ v. v.items) rs)) (sym (back c.loop-waiter.rows.len c.wait.new.rows (drop (length c.wait.new.rows) c.loop-waiter.rows.items) same))
    (subst (IsSorting c.args.nets all sorted known fresh) (sym after) (sorting_waits c.args.nets all sorted known fresh rows w m before missing lt))

pub loop-waiter-preserved : goal.loop-waiter-preserved
loop-waiter-preserved c =
    let all : List Gate = c.args.gates.items in
    let sorted : List Gate = c.loop-waiter.sorted.items in
    let known : List Bool = c.loop-waiter.known.items in
    let fresh : List Waiter = c.pop.new.self.items in
    let rows : List (List Waiter) = map (λ v. v.items) c.loop-waiter.rows.items in
    let w : Waiter = c.in-Some.waiter in
    let os : List ℕ = w.gate.outputs in
    let popped : c.loop-waiter.fresh.items ≡ fresh ++ w ∷ [] = c.in-Some.ensures.items in
    let before : IsSorting c.args.nets all sorted known (fresh ++ w ∷ []) rows = subst (λ fs. IsSorting c.args.nets all sorted known fs rows) popped c.loop-waiter.invariant in
    let inputs : all_known known w.gate.inputs ≡ true = subst (λ ks. all_known ks w.gate.inputs ≡ true) c.as_slice.ensures.value (subst (λ xs. all_known c.as_slice.result.now xs ≡ true) c.as_slice-in-Some.ensures c.in-None.ensures) in
    let taken = sorting_takes c.args.nets all sorted known fresh rows w before c.requires.within c.requires.drivers inputs in
    let marks : c.mark.new.known ≡ marked os true known = search rules in
    let emptied_rows : map (λ v. v.items) c.wake.new.rows ≡ emptied os rows = search rules in
    let woken_fresh : c.wake.new.fresh.items ≡ woken os rows fresh = search rules in
    let pushed : c.push.new.self.items ≡ sorted ++ w.gate ∷ [] = c.in_ok-push-in-None.ensures.items in
    let same_rows : length c.wake.new.rows ≡ c.loop-waiter.rows.len = search rules in
    let same_known : length c.mark.new.known ≡ c.loop-waiter.known.len = search rules in
    subst (λ rs. IsSorting c.args.nets all c.push.new.self.items (take c.loop-waiter.known.len (c.mark.new.known ++ drop (length c.mark.new.known) c.loop-waiter.known.items)) c.wake.new.fresh.items (map (λ v. v.items) rs)) (sym (back c.loop-waiter.rows.len c.wake.new.rows (drop (length c.wake.new.rows) c.loop-waiter.rows.items) same_rows))
    (subst (λ ks. IsSorting c.args.nets all c.push.new.self.items ks c.wake.new.fresh.items (map (λ v. v.items) c.wake.new.rows)) (sym (back c.loop-waiter.known.len c.mark.new.known (drop (length c.mark.new.known) c.loop-waiter.known.items) same_known))
    (subst (λ ks. IsSorting c.args.nets all c.push.new.self.items ks c.wake.new.fresh.items (map (λ v. v.items) c.wake.new.rows)) (sym marks)
    (subst (λ rs. IsSorting c.args.nets all c.push.new.self.items (marked os true known) c.wake.new.fresh.items rs) (sym emptied_rows)
    (subst (λ fs. IsSorting c.args.nets all c.push.new.self.items (marked os true known) fs (emptied os rows)) (sym woken_fresh)
    (subst (λ gs. IsSorting c.args.nets all gs (marked os true known) (woken os rows fresh) (emptied os rows)) (sym pushed) taken)))))

pub loop-waiter-smaller : goal.loop-waiter-smaller
loop-waiter-smaller c =
    let n : ℕ = length c.args.gates.items in
    let s : ℕ = length c.loop-waiter.sorted.items in
    let pushed : length c.push.new.self.items ≡ s + 1 = ap length c.in_ok-push-in-None.ensures.items ∙ length-append c.loop-waiter.sorted.items (c.in-Some.waiter.gate ∷ []) in
    let most : length c.push.new.self.items + length c.wake.new.fresh.items ≤ n = sorting_count _ _ _ _ _ _ (loop-waiter-preserved c) in
    subst (λ k. (n - k) * (n + 1) + length c.wake.new.fresh.items < (n - s) * (n + 1) + length c.loop-waiter.fresh.items) (sym pushed)
    (fewer n s (length c.loop-waiter.fresh.items) (length c.wake.new.fresh.items) (omega (arith, pushed, most)) (omega (arith, pushed, most)))

pub returns-clause-stuck : goal.returns-clause-stuck
returns-clause-stuck c =
    let rows : List (List Waiter) = map (λ v. v.items) c.loop-waiter.rows.items in
    subst (λ ks. none_ready ks c.in_ok-waiting.waiting.items ≡ true) c.loop-waiter.invariant.marks
    (none_of_rows c.loop-waiter.known.items rows c.in_ok-waiting.waiting.items c.loop-waiter.invariant.waits (λ f. c.in_ok-waiting.ensures f))
