-- The kid winds.
pub mod KidWinds
