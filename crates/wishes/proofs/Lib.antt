pub mod Choosing
pub mod Winning
pub mod Leftmost
pub mod Parts
