-- What the calls of the program are lent.
pub mod Loans
