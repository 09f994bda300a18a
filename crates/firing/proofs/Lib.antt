pub mod Raised
pub mod Fired
