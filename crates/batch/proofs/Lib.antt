pub mod AnyPieces
pub mod Cuts
mod Turns
mod Feeding
pub mod Laws
pub mod Neighbours
