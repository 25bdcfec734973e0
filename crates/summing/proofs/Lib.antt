pub mod Trials
pub mod Feeding
pub mod Events
pub mod Whole
pub mod Shut
