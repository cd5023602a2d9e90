-- The public calls' answers as the calls' definitions take them.
pub mod Calls
