-- Laws of signed words and of tests, for the functions of the table.
pub mod Signed
pub mod Unsigned
pub mod Tests
pub mod LinkRanges
pub mod PutRows
pub mod Taken
