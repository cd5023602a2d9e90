-- `walk::leaf_row` meets its contract.
use Rattle.walk.specs.WalkRows.{leaf_row}
use Rattle.walk.proofs.leaf_row.Goals as goal

pub returns : goal.returns
unfolding leaf_row
returns c = cc
