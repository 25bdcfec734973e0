pub mod Adding
pub mod Machine
