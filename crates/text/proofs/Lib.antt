pub mod Numbers
pub mod Integers
pub mod Cells
pub mod Columns
pub mod Ends
