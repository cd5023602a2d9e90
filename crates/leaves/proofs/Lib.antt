-- The laws that the finding of leaves cites.
pub mod LeafRows
