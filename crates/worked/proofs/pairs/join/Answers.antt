-- `worked::pairs::join` meets its contract.
use Rattle.std.proofs.Common.{refl}
use lib.Bits.{or_lt}
use Rattle.worked.proofs.pairs.join.Goals as goal

pub returns : goal.returns
returns c = (or_lt 5 _ _ c.requires.0 c.requires.1, refl)
