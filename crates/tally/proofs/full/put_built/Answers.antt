-- `tally::full::put_built` meets its contract: 0 at every place, and then the cells at the first.
use Rattle.tally.specs.TallyRows.{built_counts}
use Rattle.tally.proofs.full.put_built.Goals as goal

pub returns : goal.returns
unfolding built_counts
returns c = rw (c.fill.ensures.after (λ y e. e), c.requires)
