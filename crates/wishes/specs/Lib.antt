pub mod Wishes
pub mod Examples
