pub mod Shown
pub mod Fits
pub mod Search
pub mod Order
pub mod Counting
pub mod Exact
pub mod Alike
pub mod Relevance
