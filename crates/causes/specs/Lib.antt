pub mod Causes
pub mod Checking
