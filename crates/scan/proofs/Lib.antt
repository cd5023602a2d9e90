-- The laws that the proofs of a scan cite.
pub mod OrderWords
pub mod ScanBranches
