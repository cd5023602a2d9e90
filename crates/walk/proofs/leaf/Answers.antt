-- `walk::leaf` meets its contract.
use mathlib.Core.Path.{ap}
use mathlib.Core.Bool.{not}
use lib.Dec.{eqb}
use Rattle.walk.specs.WalkRows.{leaf_row}
use Rattle.walk.proofs.WalkSteps.{not_first, then-second}
use Rattle.walk.proofs.leaf.Goals as goal

pub returns-then-not-flag : goal.returns-then-not-flag
unfolding leaf_row
returns-then-not-flag c = not_first _ _ c.flag.ensures (ap not c.if-not-flag.true)

pub returns : goal.returns
unfolding leaf_row
returns c = then-second _ c.flag.ensures (ap not c.if-not-flag.false) (ap (λ k. eqb k 0) c.link.ensures.1)
