-- `header::ground_depth` meets its contract: a word's width less its leading zeros is the definition.
use lib.Count.{leading_le}
use Rattle.mesh.specs.Place.{base}
use Rattle.header.proofs.ground_depth.Goals as goal

pub overflow_sub-result : goal.overflow_sub-result
overflow_sub-result c = leading_le 32 _

pub returns : goal.returns
unfolding base
returns c = cc
