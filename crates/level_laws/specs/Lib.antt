-- No jump of two levels (02, No. 1): what is promised.
pub mod Beside
