-- The test of all rows, the counts taken on the way, and the checker's answer.
pub mod Loop
pub mod CountedRows
pub mod Checking
