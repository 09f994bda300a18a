pub mod Rows
pub mod Loading
