pub mod Known
pub mod Held
