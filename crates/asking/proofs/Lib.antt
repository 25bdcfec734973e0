pub mod Copies
pub mod Lookups
pub mod Pages
pub mod Counted
pub mod Steps
pub mod Cuts
