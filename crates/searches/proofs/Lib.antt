pub mod Ranges
pub mod Stops
pub mod Walking
pub mod Tableless
pub mod Searching
pub mod Checking
pub mod Unread
pub mod Earliest
