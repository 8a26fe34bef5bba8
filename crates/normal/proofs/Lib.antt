pub mod Pending
pub mod Plain
pub mod Laws
pub mod Unchanged
pub mod Continued
pub mod Origins
pub mod Answers
pub mod Unique
