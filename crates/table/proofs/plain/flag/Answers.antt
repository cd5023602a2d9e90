-- `table::plain::flag` meets its contract.
use Rattle.table.specs.Words.{flag_of}
use Rattle.table.proofs.plain.flag.Goals as goal

pub returns : goal.returns
unfolding flag_of
returns c = cc
