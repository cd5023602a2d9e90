-- The refusals by their numbers, and what a call that writes leaves.
pub mod Answered
pub mod OutputLists
