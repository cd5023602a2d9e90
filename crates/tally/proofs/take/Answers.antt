-- `tally::take` meets its contract.
use Rattle.tally.specs.CountSteps.{less}
use borrow.Author.Rules.{rules}
use Rattle.tally.proofs.take.Goals as goal

pub returns : goal.returns
unfolding less
returns c = search rules
