pub mod Fit
pub mod Choice
pub mod Walk
