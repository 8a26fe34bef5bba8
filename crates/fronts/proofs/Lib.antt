pub mod Shown
pub mod Fronting
pub mod Unique
