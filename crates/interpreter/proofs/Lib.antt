pub mod Replies
pub mod Words
pub mod Encoded
pub mod Totals
pub mod Loads
