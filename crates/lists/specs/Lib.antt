pub mod Tests
pub mod Front
pub mod Rows
