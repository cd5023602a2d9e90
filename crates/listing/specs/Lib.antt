-- The rows that a scan lists, and where their numbers go.
pub mod ListedRows
pub mod Written
pub mod Kinds
pub mod ScanLists
pub mod Sinks
pub mod SinkLaws
