pub mod HorizonList
pub mod Bare
pub mod Parting
pub mod Busy
pub mod Orderless
