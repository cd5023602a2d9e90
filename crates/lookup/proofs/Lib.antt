-- The laws that the proofs of a lookup cite.
pub mod TriedRows
pub mod LookupSteps
pub mod LookupBranches
