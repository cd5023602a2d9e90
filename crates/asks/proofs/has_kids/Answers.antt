-- `asks::has_kids` meets its contract.
use Rattle.asks.specs.Asks.{parental}
use Rattle.asks.proofs.has_kids.Goals as goal

pub returns : goal.returns
unfolding parental
returns c = cc
