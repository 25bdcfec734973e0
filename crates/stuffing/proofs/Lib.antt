pub mod Marks
pub mod Fits
pub mod Steps
pub mod Tries
