pub mod Batch
pub mod Stream
pub mod Feed
