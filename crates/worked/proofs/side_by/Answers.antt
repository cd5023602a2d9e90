-- `worked::side_by` meets its contract: the table's offsets are the wind's.
use Rattle.worked.proofs.Offsets.{side-at}
use borrow.Author.Rules.{rules}
use Rattle.worked.proofs.side_by.Goals as goal

pub returns : goal.returns
returns c =
    (search rules, cc (side-at c.args.t.now c.args.cap c.args.p c.args.l c.args.m c.args.w c.requires.4))
