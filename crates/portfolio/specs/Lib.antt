pub mod Ending
pub mod Fitting
pub mod Issuing
pub mod Settling
pub mod View
