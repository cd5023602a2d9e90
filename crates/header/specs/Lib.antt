-- The header as the code has it.
pub mod Headers
