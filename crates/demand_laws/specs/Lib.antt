-- The set rules, what is adjacent, and what a list of tapes does.
pub mod Adjacent
pub mod Deeds
pub mod Exactly
pub mod Numbers
pub mod History
pub mod Demand
