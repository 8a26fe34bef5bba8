pub mod Searching
pub mod OfLabel
pub mod Holding
