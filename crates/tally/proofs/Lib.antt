-- The laws of the leaf counts: step by step, all places, by rows, and on pictures.
pub mod CountLaws
pub mod RowPlaces
pub mod Moving
pub mod PicturedPlaces
pub mod RequestMoves
pub mod RowCounting
pub mod BuiltCounts
