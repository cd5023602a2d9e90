-- What is worked out from the words of other rows.
pub mod Around
pub mod FlagDigits
pub mod Worked
