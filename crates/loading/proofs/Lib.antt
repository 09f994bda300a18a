pub mod Initial
pub mod Starts
