pub mod Marks
pub mod Pass
pub mod Unlinked
pub mod Kept
pub mod Removed
pub mod Sound
pub mod Moves
