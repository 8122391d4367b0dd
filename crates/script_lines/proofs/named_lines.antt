pub mod Texts
pub mod Cells
pub mod Rows
