-- What the first two checks answer.
pub mod FirstChecks
