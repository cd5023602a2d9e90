-- The laws that the proofs of flags worked out anew cite.
pub mod FlagRows
