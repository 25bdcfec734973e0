pub mod Runs
pub mod BestFit
