use Rattle.std.proofs.Common.{length, sym, ap, arith}
use Rattle.qual_core.specs.Command.{texts}
use Rattle.qual_core.proofs.Places.{place_within, name_at, text_count}
use Rattle.qual_core.proofs.top.file_place.Goals as goal

pub offset_bounds-as_slice-index : goal.offset_bounds-as_slice-index
offset_bounds-as_slice-index c = omega (arith, ap length c.as_slice.ensures, c.as_slice.type_inv)

pub bounds-as_slice-index : goal.bounds-as_slice-index
bounds-as_slice-index c = omega (arith, ap length c.as_slice.ensures)

pub bounds-as_slice-index-2 : goal.bounds-as_slice-index-2
bounds-as_slice-index-2 c = omega (arith, ap length c.as_slice.ensures)

pub returns : goal.returns
returns c = record {
  within = rw (c.as_slice.ensures, ← text_count c.args.words.now)
      (place_within (texts c.args.words.now) c.args.command.now c.args.index c.index-as_slice-index.result c.requires.command c.requires.index);
  name = rw c.as_slice.ensures
      (sym (name_at (texts c.args.words.now) c.args.command.now c.args.index c.index-as_slice-index.result c.requires.command c.requires.index));
}
