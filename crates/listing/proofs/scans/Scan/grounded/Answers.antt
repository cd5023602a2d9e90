-- `listing::scans::Scan::grounded` meets its contract: the sign of the level.
use borrow.Author.Rules.{sfits_of}
use Rattle.listing.proofs.LevelSigns.{grounded-is}
use Rattle.listing.proofs.scans.Scan.grounded.Goals as goal

pub returns : goal.returns
returns c =
    let s = c.args.self.now in
    grounded-is s.rows.t.now s.rows.d c.args.n {z = c.raw.result} (sfits_of c.raw.type_inv) c.raw.ensures (s.rows.walkable.levels c.args.n c.requires)
