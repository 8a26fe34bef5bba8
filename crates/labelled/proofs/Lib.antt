pub mod Cutting
pub mod OfName
pub mod Unique
