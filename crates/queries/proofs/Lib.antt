pub mod Eights
pub mod Laws
pub mod Unlike
pub mod Answers
pub mod Skips
pub mod Halves
pub mod Leaps
pub mod Seeking
