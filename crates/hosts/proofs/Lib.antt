mod Splitting
mod Walking
mod Counting
mod Putting
pub mod Coded
pub mod Exactly
mod Judging
pub mod Demands
pub mod OneForm
pub mod InForce
pub mod Unique
