-- What an exported call may do.
pub mod Outputs
