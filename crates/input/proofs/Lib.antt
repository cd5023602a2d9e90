-- The laws of the checks before the build.
pub mod Head
