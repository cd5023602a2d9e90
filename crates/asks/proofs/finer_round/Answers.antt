-- `asks::finer_round` meets its contract.
use Rattle.asks.proofs.AskedArms.{finer-four}
use Rattle.asks.proofs.finer_round.Goals as goal

pub returns : goal.returns
returns c = finer-four _ _ _ _ _ _ _ c.finer_beside-a.ensures c.finer_beside-b.ensures c.finer_beside-c.ensures c.finer_beside-e.ensures
