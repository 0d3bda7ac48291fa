pub mod Allotment
pub mod Books
pub mod Law
pub mod Numbers
pub mod Rules
pub mod Settlement
pub mod Worked
