-- What a row carries.
pub mod Carried
