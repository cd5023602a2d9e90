-- `readable::is_positive` meets its contract: the test of a sign.
use Rattle.table.specs.Words.{word_of}
use borrow.Author.Rules.{sfits_of}
use Rattle.readable.proofs.Signs.{sign-is}
use Rattle.readable.proofs.is_positive.Goals as goal

pub returns : goal.returns
unfolding word_of
returns c = rw (← c.raw.ensures) (sign-is {z = c.raw.result} (sfits_of c.raw.type_inv))
