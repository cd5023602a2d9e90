-- The laws that the proofs about lines cite.
pub mod Puts
pub mod Pieces
pub mod Decimals
pub mod Worded
