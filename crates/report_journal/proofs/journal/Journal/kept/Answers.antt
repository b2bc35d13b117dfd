use Rattle.std.proofs.Common.{◌≡◌, ◌<◌, List, ℕ, length, take, ◌∙◌, ap, arith}
use Rattle.std.proofs.lemmas.List.{with_items_is}
use Rattle.report_journal.proofs.Finding.{record_there, read_is_block}
use Rattle.report_journal.proofs.journal.Journal.kept.Goals as goal

pub returns-clause-block : goal.returns-clause-block
returns-clause-block g c = λ blocks keeps.
    let few : c.args.index < length blocks = omega (arith, keeps.at.count_is, c.requires.index) in
    let bytes = keeps.bytes in
    let first = keeps.holds.reads_them in
    let sized = c.record_place.ensures.untouched.bytes ∙ first in
    let there = c.block_size.ensures.untouched.bytes ∙ sized in
    let place = c.in_ok-place.ensures.place bytes first _ blocks keeps.at.stands few in
    let r = record_there _ blocks bytes keeps.at.stands c.args.index c.in_ok-place.place few place in
    let size = c.in_ok-size.ensures.size bytes sized _ r in
    let room = c.read_at.new.room in
    let long : length room ≡ c.in_ok-size.size = omega (arith, c.read_at.auto.room, c.deref_mut.ensures.len, c.in_ok-bytes.ensures.len) in
    let read = read_is_block _ blocks bytes keeps.at.stands c.args.index c.in_ok-place.place few place room c.in_ok-count.count (long ∙ size) (c.in_ok-count.ensures.many bytes there) (c.in_ok-count.ensures.bytes bytes there) in
    c.truncate.ensures.items ∙ ap (λ (l : List ℕ). take c.in_ok-count.count l) (with_items_is c.in_ok-bytes.bytes room (omega (arith, long, c.in_ok-bytes.ensures.len))) ∙ read
