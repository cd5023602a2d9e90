-- `near::spots::refresh_near` meets its contract.
use Rattle.near.proofs.SpotSteps.{near-refreshed}
use Rattle.near.proofs.spots.refresh_near.Goals as goal

pub returns : goal.returns
returns c =
    (near-refreshed _ _ _ c.rows_around-a.ensures.0 _ c.pass_wanted.ensures.0 c.pass_wanted-2.ensures.0 c.pass_sides.ensures.0, c.pass_sides.ensures.1)
