pub mod Operands
pub mod Actions
pub mod Workable
pub mod Running
pub mod Answers
