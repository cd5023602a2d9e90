-- What the laws of this crate count, and where a lookup's tries lie.
pub mod Points
pub mod Reach
