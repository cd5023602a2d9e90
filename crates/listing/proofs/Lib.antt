-- The laws that the proofs about listed rows cite.
pub mod LevelSigns
pub mod Writing
pub mod KindNumbers
