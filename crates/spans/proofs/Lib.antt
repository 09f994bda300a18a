pub mod Spans
pub mod Parts
pub mod Halves
