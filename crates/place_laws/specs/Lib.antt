-- The laws that laws of `specs/` cite.
pub mod SetsInTurn
