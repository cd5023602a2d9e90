-- Lookup by the rows of a table.
pub mod LookupRows
pub mod TreeLeaves
