pub mod Calendar
pub mod Institutions
pub mod Plans
pub mod Ranges
pub mod Rates
pub mod Refusals
pub mod Rounding
