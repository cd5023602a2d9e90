-- What the bytes of a request stand for.
pub mod BodyLengths
pub mod AskedFor
