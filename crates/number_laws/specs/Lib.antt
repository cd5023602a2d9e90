-- What the laws about numbers are said with.
pub mod Sizes
pub mod Numbered
