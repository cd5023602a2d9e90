-- The laws of the pictures, bottom up.
pub mod Rows
pub mod Parts
pub mod Decoding
pub mod Equal
pub mod Testing
pub mod Soundness
pub mod Accepted
pub mod Links
