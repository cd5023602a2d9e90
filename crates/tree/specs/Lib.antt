-- The test of a row's neighbours in parts.
pub mod SideTests
