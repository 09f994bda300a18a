pub mod Places
pub mod Cleared
pub mod Answers
pub mod Taken
pub mod After
