-- A refinement: kids supplied one by one, and the whole.
pub mod SuppliedKid
pub mod SmallKids
pub mod Meeting
pub mod WholeRefinement
