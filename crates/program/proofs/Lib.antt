pub mod Words
pub mod Checks
pub mod Loads
pub mod Accepts
