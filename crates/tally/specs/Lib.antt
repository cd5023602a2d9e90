-- The leaf counts, step by step and by the rows of a table.
pub mod CountSteps
pub mod TallyRows
