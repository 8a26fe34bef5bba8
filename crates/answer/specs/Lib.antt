pub mod Answer
pub mod Answers
pub mod Usual
pub mod Examples
