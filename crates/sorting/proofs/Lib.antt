pub mod Ranks
pub mod Compared
pub mod Placed
