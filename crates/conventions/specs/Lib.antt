pub mod Conventions
pub mod Deciding
