pub mod Hoping
