-- `worked::pairs::corner` meets its contract: one wall of each neighbour.
use Rattle.worked.proofs.Paired.{corner-is}
use Rattle.worked.proofs.pairs.corner.Goals as goal

pub returns : goal.returns
returns c =
    (c.join.ensures.0, corner-is c.args.t.now c.args.cap c.args.n c.args.a c.args.b c.link.ensures.1 c.wall.ensures.1 c.link-2.ensures.1 c.wall-2.ensures.1 c.join.ensures.1)
