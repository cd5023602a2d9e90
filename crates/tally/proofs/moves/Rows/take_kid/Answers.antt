-- `tally::moves::Rows::take_kid` meets its contract: the kid has a place, and a leaf there can be had.
use Rattle.tally.proofs.CountLaws.{held-inside}
use Rattle.tally.proofs.moves.Rows.take_kid.Goals as goal

pub place_of-requires : goal.place_of-requires
place_of-requires c = let p = c.requires in let (a, e) = c.link.ensures in (a, rw e (p.3 _ p.1 p.2))

pub take-requires : goal.take-requires
take-requires c = let p = c.requires in let h = rw (← c.link.ensures.1, ← c.place_of.ensures) at p.4 in (held-inside c.args.c.now c.place_of.result h, h)

pub returns : goal.returns
returns c = rw (← c.link.ensures.1, ← c.place_of.ensures) c.take.ensures
