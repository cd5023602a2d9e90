-- Steps over the kids near a cell.
pub mod SpotSteps
