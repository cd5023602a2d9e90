-- Scan by the rows of a table, and its order.
pub mod FourBytes
pub mod ScanRows
