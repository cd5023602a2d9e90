-- The checker's test.
pub mod Rowwise
