-- The laws that a count of patches cites.
pub mod LevelSizes
