-- The page by the rows of a table.
pub mod PageRows
pub mod WholePage
