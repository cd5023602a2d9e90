-- The leaves by the rows of a table.
pub mod LeavesFrom
pub mod Founds
