pub mod Utf8
pub mod Utf8Examples
pub mod Decodes
