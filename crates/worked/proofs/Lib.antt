-- The laws that the proofs of what is worked out cite.
pub mod FourFlags
pub mod Paired
pub mod Offsets
pub mod KidlessRows
pub mod Downs
