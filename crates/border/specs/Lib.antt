-- The rows along the border of a cell.
pub mod Borders
