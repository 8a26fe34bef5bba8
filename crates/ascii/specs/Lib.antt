pub mod Labels
pub mod Ascii
pub mod Examples
