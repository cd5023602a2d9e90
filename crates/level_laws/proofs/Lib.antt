-- The laws of No. 1, 'No jump of two levels'.
pub mod Balanced
pub mod RowUnits
pub mod Jumps
pub mod Green
pub mod KeepingBalance
pub mod States
pub mod Units
pub mod Eight
pub mod Older
