-- Laws of floats by their bits, and of what a row carries.
pub mod Bits
pub mod CarriedWords
