-- Laws of the steps, for the functions that take them.
pub mod Opposite
pub mod LinkingIn
pub mod DroppedRows
pub mod StepsInTurn
