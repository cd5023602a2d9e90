-- What a turn and a whole tape make of a lent table.
pub mod Ran
