-- `worked::pairs::boundary` meets its contract: a row is on level 0 exactly if its level's word is 0.
use Rattle.table.proofs.LinkRanges.{level-zero}
use Rattle.worked.proofs.pairs.boundary.Goals as goal

pub returns-then-says : goal.returns-then-says
returns-then-says c d =
    rw (c.if-one.true, level-zero c.args.t.now d c.args.n, ← c.says.ensures, c.if-says.true)

pub returns-else-says : goal.returns-else-says
returns-else-says c d =
    rw (c.if-one.true, level-zero c.args.t.now d c.args.n, ← c.says.ensures, c.if-says.false, c.word.ensures, c.flag.ensures, c.link.ensures.1)
