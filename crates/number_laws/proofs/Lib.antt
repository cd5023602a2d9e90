-- The laws of the numbering, bottom up.
pub mod Entries
pub mod NumberedPlaces
pub mod Checks
pub mod Levels
pub mod Filling
pub mod WrittenPlaces
pub mod Building
pub mod Sizes
pub mod Giving
pub mod Turns
pub mod ByPlace
pub mod Naming
pub mod Refining
pub mod Pruning
pub mod Keeping
pub mod Marking
pub mod Taking
