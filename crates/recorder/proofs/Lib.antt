pub mod Showing
pub mod Reading
pub mod Recording
pub mod Feeding
pub mod Going
pub mod Joined
pub mod Meaning
