-- The rows of a cell that is killed.
pub mod KilledCell
