-- The law of the checker, both ways.
pub mod Passing
pub mod Facts
pub mod Climbing
pub mod WordsBack
pub mod Patches
pub mod Reading
pub mod Linking
pub mod Meshing
pub mod Existing
pub mod Flagging
pub mod Valuing
pub mod Picturing
pub mod Accepting
pub mod Agreeing
