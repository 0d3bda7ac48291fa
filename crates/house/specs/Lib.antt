pub mod Calls
pub mod Posting
pub mod Tickets
