-- What the first checks of a call leave for the rest of it.
pub mod First
pub mod BuildCalls
pub mod TapeCalls
pub mod CountCalls
pub mod Unique
pub mod Demands
