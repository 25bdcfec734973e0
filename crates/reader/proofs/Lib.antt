pub mod Held
pub mod Ends
pub mod Cases
pub mod Hearing
pub mod Bounds
pub mod Going
pub mod Cuts
pub mod Counts
