-- What is printed, branch by branch; that it is never longer than the program's output; and that `print` has one outcome.
pub mod PrintedTape
pub mod Printed
pub mod LineLengths
pub mod Fits
pub mod Once
