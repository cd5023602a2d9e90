-- `table::words::named` meets its contract.
use mathlib.Core.Path.{◌∙◌}
use Rattle.table.specs.Words.{code, link_of, word_of}
use borrow.Author.Rules.{sfits_of}
use Rattle.table.proofs.Signed.{within-is}
use Rattle.table.proofs.Tests.{named-is}
use Rattle.table.proofs.words.named.Goals as goal

pub returns : goal.returns
unfolding link_of word_of
returns c =
    rw (← c.raw-x.ensures) (within-is c.args.cap c.requires.0.small {z = c.raw-x.result} (sfits_of c.raw-x.type_inv) ∙ named-is (code c.raw-x.result) c.args.cap)
