-- `tally::moves::Rows::refined` meets its contract: there is room for the kids, and then the leaf can be had.
use mathlib.Core.Path.{refl}
use Rattle.tally.proofs.CountLaws.{room, come, gone, moved-one}
use Rattle.tally.proofs.moves.Rows.refined.Goals as goal

pub add-requires : goal.add-requires
add-requires c = room c.requires.3 c.kid_place.ensures

pub take-requires : goal.take-requires
take-requires c = gone (come c.requires.3 c.kid_place.ensures c.add.ensures) c.place_of.ensures

pub returns : goal.returns
returns c = moved-one _ _ c.kid_place.ensures c.add.ensures refl c.place_of.ensures c.take.ensures
