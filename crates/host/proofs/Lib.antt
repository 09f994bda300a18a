pub mod Settled
pub mod Loads
pub mod Checked
pub mod Started
