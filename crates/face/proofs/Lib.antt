-- What the outputs of an exported call need: counts that fit their width and an order of any length; and that each exported call has one outcome.
pub mod CountsFit
pub mod AnyOrder
pub mod ExportedOnce
