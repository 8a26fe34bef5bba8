pub mod Kinds
pub mod Kanji
pub mod KanjiBits
pub mod Characters
pub mod Replace
pub mod Compose
pub mod Examples
