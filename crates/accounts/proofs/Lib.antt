pub mod Answered
pub mod Moves
pub mod Payments
pub mod Records
pub mod Totals
