pub mod Flags
pub mod View
pub mod Made
pub mod Changed
pub mod Live
pub mod Room
pub mod Near
pub mod Arrays
