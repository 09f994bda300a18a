pub mod Scans
pub mod Standing
pub mod Fitting
pub mod Passing
