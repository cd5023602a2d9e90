-- `near::spots::pass_sides` meets its contract.
use Rattle.edit_laws.specs.Tables.{at_kid}
use Rattle.near.proofs.SpotSteps.{over-more, over_none}
use Rattle.near.proofs.spots.pass_sides.Goals as goal

pub returns : goal.returns
returns g c =
    let step = g.P.Pass.step in
    (over-more (at_kid (step _ _) _) _ _ _ c.pass_kid.ensures.0 (over-more (at_kid (step _ _) _) _ _ _ c.pass_kid-2.ensures.0 (over-more (at_kid (step _ _) _) _ _ _ c.pass_kid-3.ensures.0 (over-more (at_kid (step _ _) _) _ _ _ c.pass_kid-4.ensures.0 (over_none _ _)))), c.pass_kid-4.ensures.1)
