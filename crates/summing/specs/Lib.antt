pub mod Summary
pub mod Summing
