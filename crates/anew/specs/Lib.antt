-- What the laws of a pass rest on.
pub mod NilRow
