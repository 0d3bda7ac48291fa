pub mod Hands
pub mod Opening
pub mod Rooms
pub mod Runs
pub mod Takes
