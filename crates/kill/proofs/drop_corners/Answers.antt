-- `kill::drop_corners` meets its contract.
use Rattle.patch.proofs.StepsInTurn.{step_then}
use Rattle.kill.proofs.drop_corners.Goals as goal

pub returns : goal.returns
returns c = step_then (step_then (step_then c.drop_corner.ensures c.drop_corner-2.ensures) c.drop_corner-3.ensures) c.drop_corner-4.ensures
