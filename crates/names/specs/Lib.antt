pub mod Calls
pub mod Steps
pub mod Examples
pub mod Placed
pub mod Shared
