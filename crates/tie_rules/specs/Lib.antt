pub mod Rules
pub mod Sharing
pub mod Meanings
