pub mod Scanning
pub mod Quickly
