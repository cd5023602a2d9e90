-- The measure is the number of levels left. The invariant: the row's own and those of the first kids are found.
use Rattle.leaves.specs.Founds.{FoundAlso}
use Rattle.leaves.proofs.LeafRows.{first_leaves}
use Rattle.leaves.proofs.+find_leaves.Given as goal

abbrev pub invariant-loop-w : goal.invariant-loop-w
invariant-loop-w l = FoundAlso l.fn.found (first_leaves l.t l.cap l.l l.n l.w-index) l.found

abbrev pub decreases-find_leaves : goal.decreases-find_leaves
decreases-find_leaves l = l.l
