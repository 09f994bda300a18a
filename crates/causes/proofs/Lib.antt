pub mod Tests
pub mod Complete
