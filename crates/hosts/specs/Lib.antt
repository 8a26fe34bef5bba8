pub mod Hosts
pub mod Steps
pub mod Tried
