-- The laws of demand 3, and of refusals.
pub mod Adjacent
pub mod Exactly
pub mod Prefixes
pub mod Refusals
pub mod Answers
pub mod Numbers
pub mod History
pub mod Requests
pub mod Tapes
pub mod Lasting
pub mod PicturedCalls
pub mod Demand
pub mod Rings
