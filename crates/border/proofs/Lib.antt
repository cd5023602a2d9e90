-- The laws that the proofs of a border cite.
pub mod Borders
