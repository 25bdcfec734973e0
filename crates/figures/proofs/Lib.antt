pub mod Counting
pub mod Laws
pub mod Tallying
pub mod Rows
pub mod Once
