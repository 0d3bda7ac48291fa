pub mod Bids
pub mod Issuing
pub mod Published
pub mod Sound
pub mod Steps
