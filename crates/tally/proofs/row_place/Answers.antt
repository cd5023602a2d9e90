-- `tally::row_place` meets its contract: the level and what the row carries have a place.
use Rattle.tally.specs.TallyRows.{row_place}
use Rattle.tally.proofs.row_place.Goals as goal

pub place-requires : goal.place-requires
place-requires c = let p = c.requires.3 in rw (c.level.ensures, c.carried_at.ensures) (p.level, p.status)

pub returns : goal.returns
unfolding row_place
returns c = let (a, e) = c.place.ensures in (a, rw (← c.level.ensures, ← c.carried_at.ensures) e)
