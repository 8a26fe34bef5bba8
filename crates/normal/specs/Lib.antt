pub mod Normal
pub mod Calls
pub mod Examples
