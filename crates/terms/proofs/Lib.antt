pub mod Answered
pub mod Dates
pub mod Holidays
