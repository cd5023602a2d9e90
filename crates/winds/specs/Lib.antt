-- The table of the winds.
pub mod WindTable
