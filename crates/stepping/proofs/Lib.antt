pub mod Changed
pub mod Standing
pub mod Room
pub mod Answers
