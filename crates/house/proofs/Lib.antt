pub mod Making
pub mod Postings
