-- `asks::finer_beside` meets its contract.
use Rattle.asks.proofs.AskedArms.{finer-two}
use Rattle.asks.proofs.finer_beside.Goals as goal

pub returns : goal.returns
returns c =
    finer-two _ _ _ _ _ _ _ _ _ _ _ c.link-kid.ensures.1 c.link-one.ensures.1 c.link-other.ensures.1 c.link-x.ensures.1 c.link-y.ensures.1
