pub mod Groups
pub mod Naming
pub mod Pairs
pub mod Ranges
pub mod Turns
