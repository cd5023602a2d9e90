-- `near::spots::pass_wanted` meets its contract.
use Rattle.edit_laws.specs.Tables.{at_kid}
use Rattle.near.proofs.SpotSteps.{over-both}
use Rattle.near.proofs.spots.pass_wanted.Goals as goal

pub returns : goal.returns
returns g c =
    (over-both (at_kid (g.P.Pass.step _ _) _) _ _ _ c.pass_kids.ensures.0 c.pass_corners.ensures.0, c.pass_corners.ensures.1)
