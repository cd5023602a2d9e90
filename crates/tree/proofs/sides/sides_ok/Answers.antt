-- `tree::sides::sides_ok` meets its contract: over the seam of a ring, or by the parent.
use Rattle.tree.proofs.Seaming.{sides-off, sides-on}
use Rattle.tree.proofs.sides.sides_ok.Goals as goal

pub returns-then-on_seam : goal.returns-then-on_seam
returns-then-on_seam c =
    let s = c.args.rows.now in
    sides-on _ _ _ _ _ s.depth_is s.tall c.on_seam.ensures c.if-on_seam.true c.seam_ok.ensures

pub returns : goal.returns
returns c =
    sides-off _ _ _ _ _ c.args.rows.now.depth_is c.on_seam.ensures c.if-on_seam.false c.parental_ok.ensures
