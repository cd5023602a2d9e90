-- The laws of the leaf counts, bottom up.
pub mod Shares
pub mod FullCounts
pub mod Families
pub mod RequestCounts
pub mod BuildLeaves
pub mod Listed
pub mod CountedChecks
