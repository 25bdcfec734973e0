pub mod Raising
pub mod Pressing
