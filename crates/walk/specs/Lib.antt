-- Leaves and walks by the rows of a table.
pub mod WalkRows
pub mod Walkable
