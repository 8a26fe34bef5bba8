pub mod LineFields
pub mod OneTab
pub mod Unique
