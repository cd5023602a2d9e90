-- `worked::pairs::wall` meets its contract: two digits.
use Rattle.table.specs.Words.{flag_of}
use Rattle.worked.proofs.Paired.{wall-is}
use Rattle.worked.proofs.pairs.wall.Goals as goal

pub returns : goal.returns
unfolding flag_of
returns c = rw c.flags-w.ensures (wall-is _ _)
