-- `tally::moves::Rows::killed` meets its contract: the leaf can be had, and none comes.
use mathlib.Core.Path.{refl}
use Rattle.tally.proofs.CountLaws.{more-none, come, gone, moved-one}
use Rattle.tally.proofs.moves.Rows.killed.Goals as goal

pub take-requires : goal.take-requires
take-requires c = gone (come c.requires.2 refl (more-none _ _)) c.place_of.ensures

pub returns : goal.returns
returns c = moved-one _ _ refl (more-none _ _) refl c.place_of.ensures c.take.ensures
