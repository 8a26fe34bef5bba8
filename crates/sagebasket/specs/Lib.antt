pub mod Outside
pub mod Steps
pub mod Examples
