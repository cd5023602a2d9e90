-- The laws that the reading of a request cites.
pub mod HighFirst
pub mod Patterns
pub mod Bodies
pub mod RequestsRead
