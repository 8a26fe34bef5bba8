pub mod Encoding
pub mod Decoding
pub mod Unique
