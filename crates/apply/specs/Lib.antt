-- What a lent table is while a tape runs on it, and what a request makes of it.
pub mod Drawn
pub mod Applied
pub mod Edited
