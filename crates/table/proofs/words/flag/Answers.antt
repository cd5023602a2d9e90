-- `table::words::flag` meets its contract.
use Rattle.table.specs.Words.{flag_of}
use Rattle.table.proofs.words.flag.Goals as goal

pub returns : goal.returns
unfolding flag_of
returns c = cc
