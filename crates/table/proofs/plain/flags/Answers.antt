-- `table::plain::flags` meets its contract.
use native.Mathlib.Omega.{arith}
use Rattle.table.proofs.Unsigned.{word-unsigned}
use Rattle.table.proofs.plain.flags.Goals as goal

pub word-requires : goal.word-requires
word-requires c = (omega arith, word-unsigned c.args.t.now c.args.n 12 (c.requires.0.flags c.args.n c.requires.1))

pub returns : goal.returns
returns c = c.word.ensures
