pub mod Pass
pub mod Faithful
