-- The set of names that a tree holds.
use Rattle.std.specs.Prelude.{ℕ, map}
use Rattle.std.specs.Ordering.{nat_cmp}
use Rattle.std.specs.Cmp.Lexicographic.{slice_cmp}
use Rattle.std.specs.BTreeSet.{BTreeSet}
use Rattle.std.specs.FinSet as set
use Rattle.std.specs.declared.alloc.Global.{Global}
use Rattle.std.specs.declared.vec.Vec.{Vec}

abbrev pub names_of : BTreeSet (Vec ℕ Global) → set.FinSet (slice_cmp nat_cmp)
names_of tree = set.from_list (map (λ v. v.items) tree.keys)
