pub mod Live
pub mod Kept
