-- `table::words::says` meets its contract.
use Rattle.table.specs.Words.{word_of}
use borrow.Author.Rules.{sfits_of}
use Rattle.table.proofs.Signed.{same-is}
use Rattle.table.proofs.words.says.Goals as goal

pub returns : goal.returns
unfolding word_of
returns c =
    rw (← c.raw.ensures) (same-is _ c.requires.1 {z = c.raw.result} (sfits_of c.raw.type_inv))
