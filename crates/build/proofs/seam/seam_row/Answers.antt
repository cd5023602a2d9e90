-- `build::seam::seam_row` meets its contract.
use mathlib.Core.Path.{refl}
use Rattle.header.specs.Headers.{header_of}
use Rattle.build.proofs.Seams.{sew-north, sew-south, sew-not}
use Rattle.build.proofs.seam.seam_row.Goals as goal

pub returns-then-j-last : goal.returns-then-j-last
returns-then-j-last c =
    sew-north (header_of c.args.header).grid _ _ _ _ c.word-i.ensures c.word-j.ensures c.requires.0 c.if-j-last.true c.down_to-north.ensures.0 c.down_to-north.ensures.1 c.put.ensures

pub returns-then-j-ne0 : goal.returns-then-j-ne0
returns-then-j-ne0 c =
    sew-not (header_of c.args.header).grid _ _ _ _ refl c.word-j.ensures c.requires.0 c.if-j-last.false c.if-j-ne0.true refl

pub returns : goal.returns
returns c =
    sew-south (header_of c.args.header).grid _ _ _ _ c.word-i-2.ensures c.word-j.ensures c.requires.0 c.if-j-last.false c.if-j-ne0.false c.down_to-south.ensures.0 c.down_to-south.ensures.1 c.put-2.ensures
