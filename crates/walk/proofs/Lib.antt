-- Laws of walks over rows.
pub mod WalkSteps
