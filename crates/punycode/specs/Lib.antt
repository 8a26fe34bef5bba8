pub mod Punycode
pub mod Calls
pub mod Samples
pub mod Decoding
pub mod Inner
pub mod Order
