use Rattle.std.proofs.Common.{◌≡◌, ◌++◌, ℕ, List, map, drop}
use Rattle.std.specs.Ordering.{nat_cmp}
use Rattle.std.specs.Cmp.Lexicographic.{slice_cmp}
use Rattle.correspondence.specs.Index.{code}
use Rattle.correspondence.proofs.indexing.behind_word.Given as goal

abbrev pub invariant-loop-value : goal.invariant-loop-value
invariant-loop-value l = (more : List ℕ) → slice_cmp nat_cmp l.words (map code l.word ++ more) ≡ slice_cmp nat_cmp l.rest (map code (drop l.value-index l.word) ++ more)
