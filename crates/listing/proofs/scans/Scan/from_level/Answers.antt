-- `listing::scans::Scan::from_level` meets its contract: the signed words that are compared are those that the code reads.
use mathlib.Core.Path.{◌∙◌}
use mir.Syntax.{w32}
use mir.Facts.{to_z-of_z}
use borrow.Author.Rules.{rules, sfits_of}
use Rattle.listing.proofs.LevelSigns.{level-test}
use Rattle.listing.proofs.scans.Scan.from_level.Goals as goal

pub returns : goal.returns
returns c = level-test _ c.args.n (to_z-of_z {w = w32} (search rules)) (to_z-of_z {w = w32} (sfits_of c.raw.type_inv) ∙ c.raw.ensures)
