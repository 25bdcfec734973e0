pub mod Asking
pub mod Machine
