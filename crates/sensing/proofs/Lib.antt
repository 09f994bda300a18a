pub mod Ceilings
pub mod Withdrawals
pub mod Readings
