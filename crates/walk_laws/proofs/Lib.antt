-- The laws of walks and counts, bottom up.
pub mod Below
pub mod Walks
pub mod Orders
pub mod Scans
pub mod Few
pub mod Sets
pub mod Points
pub mod Counts
pub mod Leaves
pub mod Lookups
