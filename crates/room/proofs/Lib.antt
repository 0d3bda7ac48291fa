pub mod Going
pub mod Laws
pub mod Opened
pub mod Taking
pub mod Turning
