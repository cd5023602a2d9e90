-- The laws that the proofs of what is asked cite.
pub mod AskedArms
