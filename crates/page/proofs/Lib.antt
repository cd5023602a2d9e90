-- The page put line by line.
pub mod PagePut
