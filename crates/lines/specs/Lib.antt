-- What is put into a lent list, on a sheet, and the lines of leaves.
pub mod Puts
pub mod Sheets
pub mod LineRows
pub mod LeafLines
