use Rattle.std.proofs.Common.{rules, to_z, of_z, w32, ◌≡◌, ◌<◌, ◌+◌, ◌-◌, ◌++◌, ◌∷◌, [], ℕ, List, length, map, Option, Some, None, refl, sym, ap, subst, ◌∙◌, append-nil, append_assoc, arith}
use Rattle.std.specs.Prelude.{All, slice_get, IsSorted}
use Rattle.std.proofs.lemmas.List.{map-append}
use Rattle.std.proofs.lemmas.Option.{slice_get_read}
use Rattle.waiver_source.specs.Index.{AreKeysOf, HasLatest, IsKeyOf, placed_cmp, placed_of}
use Rattle.waiver_source.specs.declared.entry.PlacedKey.{PlacedKey}
use Rattle.waiver_source.specs.declared.entry.Entry.{Entry}
use Rattle.waiver_source.proofs.Raised.{index_from, key_own, none_left, raised_more}
use Rattle.waiver_source.proofs.indexing.raised.Goals as goal

pub loop-placed-init : goal.loop-placed-init
loop-placed-init c =
    let none : c.in_ok-entries.entries.items ≡ [] = c.in_ok-entries.ensures.items in
    record {
      whole = sym c.into_iter-placed-iterator.ensures.into_iter_gives.0;
      long = search rules;
      same = ap (map placed_of) none;
      latest = subst (All (HasLatest c.args.waivers.now)) (sym none) (λ k d lt. absurd (omega arith));
    }

-- the key that comes, and its waiver
came : (c : goal.In-Some) → IsKeyOf c.args.waivers.now c.in-Some.placed × (c.in-Some.placed.place < length c.args.waivers.now)
came c =
    key_own c.args.waivers.now c.args.keys.items c.requires.0 c.loop-placed.yielded c.next.new.self.rest.items c.in-Some.placed
    (c.loop-placed.invariant.whole ∙ ap (λ r. c.loop-placed.yielded ++ r) c.in-Some.ensures.steps.0)

pub bounds-waivers-placed : goal.bounds-waivers-placed
bounds-waivers-placed c = (came c).1

pub offset_bounds-waivers-placed : goal.offset_bounds-waivers-placed
offset_bounds-waivers-placed c = let w = (came c).1 in search rules

pub loop-placed-preserved : goal.loop-placed-preserved
loop-placed-preserved c =
    let inv = c.loop-placed.invariant in
    let old = c.loop-placed.entries.items in
    let waivers = c.args.waivers.now in
    let k = c.in-Some.placed in
    let rest = c.in-Some.ensures.steps.0 in
    let all = inv.whole ∙ ap (λ r. c.loop-placed.yielded ++ r) rest in
    let split : c.args.keys.items ≡ map placed_of old ++ k ∷ c.next.new.self.rest.items = all ∙ ap (λ r. r ++ k ∷ c.next.new.self.rest.items) (sym inv.same) in
    let wt : slice_get waivers k.place ≡ Some c.index-waivers-placed.result = slice_get_read waivers (length waivers) k.place c.index-waivers-placed.result refl (key_own waivers c.args.keys.items c.requires.0 c.loop-placed.yielded c.next.new.self.rest.items k all).1 c.index-waivers-placed.is in
    let more = raised_more waivers c.args.keys.items c.requires.0 c.requires.1 old c.next.new.self.rest.items k c.index-waivers-placed.result _ split wt (c.last.ensures.value ∙ ap (λ es. slice_get es (length es - 1)) c.deref.ensures.value) inv.latest in
    let items = c.in_ok-push.ensures.items in
    let kept : to_z w32 (of_z w32 c.latest_behind-latest.result) ≡ c.latest_behind-latest.result = search rules in
    let told = items ∙ ap (λ z. old ++ record { placed = k; latest = z } ∷ []) (kept ∙ c.latest_behind-latest.ensures) in
    record {
      whole = all ∙ sym (append_assoc c.loop-placed.yielded (k ∷ []) c.next.new.self.rest.items);
      long = (let l = inv.long in let m = c.in-Some.ensures.steps.1 in let n = ap length rest in omega arith);
      same = ap (map placed_of) items ∙ map-append placed_of old _ ∙ ap (λ z. z ++ k ∷ []) inv.same;
      latest = subst (All (HasLatest waivers)) (sym told) more;
    }

pub returns : goal.returns
returns c =
    let inv = c.loop-placed.invariant in
    let end = none_left c.loop-placed.placed-iterator.rest.items (let l = inv.long in let e = c.in-None.ensures.steps.0 in omega arith) in
    let whole = inv.whole ∙ ap (λ r. c.loop-placed.yielded ++ r) end ∙ append-nil c.loop-placed.yielded in
    index_from c.args.waivers.now c.args.keys.items c.requires.0 c.requires.1 c.loop-placed.entries.items (inv.same ∙ sym whole) inv.latest
