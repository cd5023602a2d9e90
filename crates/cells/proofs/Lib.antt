-- The flags that the code sums up are those of the definitions.
pub mod FlagSums
