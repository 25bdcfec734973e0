pub mod Arguments
pub mod Asked
