-- The laws of refusals and their numbers.
pub mod RefusalNumbers
pub mod InOrder
