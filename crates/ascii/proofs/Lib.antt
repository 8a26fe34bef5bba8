mod Forming
pub mod OfNames
pub mod Coded
pub mod Joining
pub mod OneForm
pub mod Unique
