-- `tally::level` meets its contract: a level from 0 up has no sign.
use native.Mathlib.Omega.{arith}
use Rattle.table.proofs.Unsigned.{word-unsigned}
use Rattle.tally.proofs.level.Goals as goal

pub word-requires : goal.word-requires
word-requires c = (omega (arith, c.requires.0.sized.words), word-unsigned c.args.t.now c.args.n 9 (omega (arith, c.requires.2)))
