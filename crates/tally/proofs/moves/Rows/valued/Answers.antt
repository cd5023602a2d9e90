-- `tally::moves::Rows::valued` meets its contract: there is room for a leaf that is measured, and then the leaf can be had.
use mathlib.Core.Path.{refl}
use Rattle.tally.proofs.CountLaws.{room, come, gone, moved-one}
use Rattle.tally.proofs.moves.Rows.valued.Goals as goal

pub add-requires : goal.add-requires
add-requires c = room c.requires.2 c.value_place.ensures

pub take-requires : goal.take-requires
take-requires c = gone (come c.requires.2 c.value_place.ensures c.add.ensures) c.place_of.ensures

pub returns : goal.returns
returns c = moved-one _ _ c.value_place.ensures c.add.ensures refl c.place_of.ensures c.take.ensures
