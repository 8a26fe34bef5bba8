pub mod Typing
mod Looking
pub mod Nightly
pub mod Hope
pub mod Hosts
