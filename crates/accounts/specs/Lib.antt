pub mod Postings
pub mod Journals
pub mod Tables
