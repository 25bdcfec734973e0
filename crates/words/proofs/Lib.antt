pub mod Digits
pub mod Columns
