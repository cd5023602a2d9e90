-- What a request is refused for, by the words of a table, and what the two requests do that change one row alone.
pub mod Decide
pub mod OneRow
