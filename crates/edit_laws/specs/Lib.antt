-- The steps of a request on a table, and the tables between two steps.
pub mod Linked
pub mod PatchSteps
pub mod LinkBy
pub mod Anew
pub mod Tables
pub mod Built
pub mod Rooted
pub mod BuildSoFar
