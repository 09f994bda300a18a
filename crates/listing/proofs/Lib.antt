pub mod Decimals
pub mod Lines
pub mod Merge
pub mod Next
pub mod Listed
pub mod Well
