-- Laws of the steps of a build, for the functions that take them.
pub mod RowTurns
pub mod FullPlaces
pub mod Empty
pub mod Seams
pub mod Growths
pub mod Whole
