pub mod Parts
mod Pieces
pub mod Digits
mod Placing
pub mod Answering
mod Reading
mod UsualLine
mod First
pub mod Longest
pub mod Fields
pub mod OneForm
pub mod Scripts
pub mod Unique
