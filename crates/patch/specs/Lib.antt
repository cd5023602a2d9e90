-- The bounds that the steps ask for.
pub mod Small
pub mod NextPatches
