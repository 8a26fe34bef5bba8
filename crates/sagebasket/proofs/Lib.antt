mod Small
mod Said
mod Wishing
mod Alike
mod Held
mod Reading
mod Hopeless
pub mod Nightly
pub mod Unique
pub mod Room
