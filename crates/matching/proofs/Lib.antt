pub mod Plans
pub mod Rows
pub mod Rules
pub mod Firing
pub mod Bits
pub mod Failing
pub mod Remembering
pub mod Ahead
