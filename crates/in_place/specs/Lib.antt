pub mod Given
pub mod Changes
