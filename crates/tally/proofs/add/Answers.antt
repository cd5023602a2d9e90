-- `tally::add` meets its contract.
use Rattle.tally.specs.CountSteps.{more}
use borrow.Author.Rules.{rules}
use Rattle.tally.proofs.add.Goals as goal

pub returns : goal.returns
unfolding more
returns c = search rules
