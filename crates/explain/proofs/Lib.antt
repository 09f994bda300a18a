pub mod Verdicts
pub mod Layouts
pub mod Comings
