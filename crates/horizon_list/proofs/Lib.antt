pub mod Ordering
pub mod Seeking
pub mod Putting
pub mod Listing
