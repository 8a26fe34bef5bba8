pub mod Laws
pub mod Scan
pub mod Rising
pub mod Fronts
pub mod Pieces
pub mod Tables
pub mod Unique
pub mod Chains
