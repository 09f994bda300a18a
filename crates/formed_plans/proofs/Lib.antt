pub mod Words
pub mod Steps
pub mod Tests
pub mod Within
