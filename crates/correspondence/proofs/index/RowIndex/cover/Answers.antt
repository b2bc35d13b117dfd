use Rattle.std.proofs.Common.{◌≡◌, ◌<◌, Some, length, refl, sym, ap, subst, ◌∙◌, arith, rules}
use Rattle.std.specs.Prelude.{slice_get}
use Rattle.std.specs.Ordering.{is_ne}
use Rattle.std.proofs.lemmas.Option.{slice_get_read}
use Rattle.correspondence.specs.Index.{IsFirstAt, key_cmp, key_of, words}
use Rattle.correspondence.proofs.Found.{below_covers_not, row_within, none_at_end, none_above, first_here, none_more, not_here}
use Rattle.correspondence.proofs.index.RowIndex.cover.Goals as goal

pub loop-i-init : goal.loop-i-init
loop-i-init c = λ j e lt at.
    let entries = c.args.self.now.entries.items in
    let cut = subst (λ n. IsFirstAt entries (n, words c.args.pins.now c.args.liberty.now c.args.udps.now) c.first_at-i.result) c.front-front.ensures c.first_at-i.ensures in
    below_covers_not c.args.table.now.rows c.args.self.now.entries.items c.requires.entries c.requires.sorted c.args.pins.now c.args.liberty.now c.args.udps.now c.args.nodes.now
    j e at (cut.below j e lt at)

pub returns-then-is_ne : goal.returns-then-is_ne
returns-then-is_ne c =
    let entries = c.args.self.now.entries.items in
    let at = slice_get_read entries (length entries) c.loop-i.i c.index-entry.result.now refl (omega arith) c.index-entry.ensures in
    let key_words = words c.args.pins.now c.args.liberty.now c.args.udps.now in
    let cut = subst (λ n. IsFirstAt entries (n, key_words) c.first_at-i.result) c.front-front.ensures c.first_at-i.ensures in
    let apart = sym (c.if-is_ne.ensures ∙ ap is_ne (c.compare.ensures ∙ ap (λ n. key_cmp (key_of c.index-entry.result.now) (n, key_words)) c.front-front.ensures)) in
    none_above c.args.table.now.rows entries c.requires.entries c.requires.sorted c.args.pins.now c.args.liberty.now c.args.udps.now c.args.nodes.now
    c.loop-i.i c.index-entry.result.now at c.loop-i.invariant (cut.others c.loop-i.i c.index-entry.result.now (omega arith) at) apart

pub bounds-rows-entry : goal.bounds-rows-entry
bounds-rows-entry c =
    let entries = c.args.self.now.entries.items in
    let at = slice_get_read entries (length entries) c.loop-i.i c.index-entry.result.now refl (omega arith) c.index-entry.ensures in
    subst (λ rows. c.index-entry.result.now.row < length rows) (sym c.as_slice-rows.ensures)
    (row_within c.args.table.now.rows entries c.requires.entries c.loop-i.i c.index-entry.result.now at)

pub offset_bounds-rows-entry : goal.offset_bounds-rows-entry
offset_bounds-rows-entry c =
    let within : c.index-entry.result.now.row < length c.as_slice-rows.result.now = bounds-rows-entry c in
    let most = c.as_slice-rows.type_inv in
    search rules

pub returns-then-covers : goal.returns-then-covers
returns-then-covers c =
    let entries = c.args.self.now.entries.items in
    let rows = c.as_slice-rows.result.now in
    let at = slice_get_read entries (length entries) c.loop-i.i c.index-entry.result.now refl (omega arith) c.index-entry.ensures in
    let within = subst (λ rows. c.index-entry.result.now.row < length rows) (sym c.as_slice-rows.ensures)
    (row_within c.args.table.now.rows entries c.requires.entries c.loop-i.i c.index-entry.result.now at) in
    let in_rows = slice_get_read rows (length rows) c.index-entry.result.now.row c.index-rows-entry.result refl within c.index-rows-entry.is in
    first_here c.args.table.now.rows entries c.requires.entries c.requires.sorted c.args.pins.now c.args.liberty.now c.args.udps.now c.args.nodes.now
    c.loop-i.i c.index-entry.result.now c.index-rows-entry.result at (subst (λ rows. slice_get rows c.index-entry.result.now.row ≡ Some c.index-rows-entry.result) c.as_slice-rows.ensures in_rows)
    c.loop-i.invariant (c.if-covers.ensures.0 refl)

pub loop-i-preserved : goal.loop-i-preserved
loop-i-preserved c =
    let entries = c.args.self.now.entries.items in
    let rows = c.as_slice-rows.result.now in
    let at = slice_get_read entries (length entries) c.loop-i.i c.index-entry.result.now refl (omega arith) c.index-entry.ensures in
    let within = subst (λ rows. c.index-entry.result.now.row < length rows) (sym c.as_slice-rows.ensures)
    (row_within c.args.table.now.rows entries c.requires.entries c.loop-i.i c.index-entry.result.now at) in
    let in_rows = slice_get_read rows (length rows) c.index-entry.result.now.row c.index-rows-entry.result refl within c.index-rows-entry.is in
    let here = subst (λ rows. slice_get rows c.index-entry.result.now.row ≡ Some c.index-rows-entry.result) c.as_slice-rows.ensures in_rows in
    none_more c.args.table.now.rows entries c.requires.entries c.requires.sorted c.args.pins.now c.args.liberty.now c.args.udps.now c.args.nodes.now
    c.loop-i.i c.index-entry.result.now at c.loop-i.invariant
    (not_here c.args.table.now.rows c.args.pins.now c.args.liberty.now c.args.udps.now c.args.nodes.now c.index-entry.result.now c.index-rows-entry.result here
    (λ h. let e = c.if-covers.ensures.1 h in cc))

pub returns : goal.returns
returns c =
    none_at_end c.args.table.now.rows c.args.self.now.entries.items c.requires.entries c.requires.sorted c.args.pins.now c.args.liberty.now c.args.udps.now c.args.nodes.now
    c.loop-i.i (omega arith) c.loop-i.invariant
