pub mod Allotting
pub mod Groups
