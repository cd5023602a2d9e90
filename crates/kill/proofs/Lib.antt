-- The laws that the proofs of a kill cite.
pub mod Killed
