-- `table::words::is_free` meets its contract.
use Rattle.table.specs.Words.{free_at}
use Rattle.table.proofs.words.is_free.Goals as goal

pub returns : goal.returns
unfolding free_at
returns c = cc
