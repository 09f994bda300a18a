pub mod Passes
pub mod Apart
pub mod Sets
pub mod Waiting
pub mod Clauses
