pub mod Moving
pub mod Walking
