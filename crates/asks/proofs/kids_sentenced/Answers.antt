-- `asks::kids_sentenced` meets its contract.
use Rattle.asks.proofs.AskedArms.{sentenced-four}
use Rattle.asks.proofs.kids_sentenced.Goals as goal

pub returns : goal.returns
returns c = sentenced-four _ _ _ _ _ _ _ c.is_sentenced-a.ensures c.is_sentenced-b.ensures c.is_sentenced-c.ensures c.is_sentenced-e.ensures
