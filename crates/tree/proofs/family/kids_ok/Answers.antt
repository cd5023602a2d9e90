-- `tree::family::kids_ok` meets its contract: without kids.
use Rattle.tree.proofs.FamilyRows.{kids-bare}
use Rattle.table.proofs.LinkRanges.{kept-as-is}
use Rattle.tree.proofs.family.kids_ok.Goals as goal

pub returns-then-kidless : goal.returns-then-kidless
returns-then-kidless c =
    kids-bare _ _ _ (kept-as-is c.args.rows.now.levels.readable.plain c.requires) c.kidless.ensures c.if-kidless.true
