-- The reference grids, and the first laws of the rules.
pub mod References
pub mod Idle
pub mod SetRules
pub mod Winds
pub mod Depth
pub mod Runs
pub mod Tries
