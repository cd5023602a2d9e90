-- What is asked of rows.
pub mod Asks
