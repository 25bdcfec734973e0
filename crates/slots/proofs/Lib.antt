pub mod Soundness
pub mod Ageing
pub mod Booking
pub mod Named
