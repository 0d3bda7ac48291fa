pub mod Deals
pub mod Publishing
pub mod Soundness
pub mod Tests
pub mod View
