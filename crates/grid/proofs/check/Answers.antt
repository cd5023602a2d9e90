use Rattle.grid.proofs.check.Goals as goal

pub returns : goal.returns
returns c = c.check_counted.ensures
