pub mod Laws
pub mod InUse
pub mod Putting
pub mod Standing
pub mod Planned
