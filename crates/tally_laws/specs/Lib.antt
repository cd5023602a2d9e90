-- What a request moves in the leaf counts, and the full count from the cells alone.
pub mod Moves
pub mod LeavesOn
