pub mod Recorder
pub mod Machine
