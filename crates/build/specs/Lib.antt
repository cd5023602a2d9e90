-- Short names for what the steps of a build answer.
pub mod BuildSteps
