pub mod Sensing
