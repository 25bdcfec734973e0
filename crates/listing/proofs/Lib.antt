pub mod Lines
pub mod Feeding
pub mod Closing
pub mod Cuts
