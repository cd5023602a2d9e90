-- A removal whole.
pub mod WholeRemoval
