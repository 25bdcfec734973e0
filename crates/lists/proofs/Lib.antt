pub mod Bools
pub mod Members
pub mod Order
pub mod Append
pub mod Stores
pub mod Same
pub mod Crowd
