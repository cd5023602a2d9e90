-- The rows of a table that passes the checker's test are read as they stand.
pub mod CountingUp
pub mod Signs
pub mod ReadableRows
