-- What a lent table says, row by row, whatever stands in it, and what a write makes of it.
pub mod Words
pub mod Writes
pub mod Plain
