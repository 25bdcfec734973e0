pub mod Worded
pub mod Rows
